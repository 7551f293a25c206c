use Rattle.wc_value.proofs.Readback.{one_front}
use Rattle.wc_value.proofs.laws.no_spelling_begins_another.Goals as goal

pub returns : goal.returns
returns c = one_front
