use Rattle.wc_turn_laws.proofs.Sources.{one_source}
use Rattle.wc_turn_laws.proofs.turns.one_source.Goals as goal

pub returns : goal.returns
returns c = one_source
