use Rattle.wc_turn_laws.proofs.Counted.{advances_number_calls}
use Rattle.wc_turn_laws.proofs.outlines.advances_number_calls.Goals as goal

pub returns : goal.returns
returns c = advances_number_calls
