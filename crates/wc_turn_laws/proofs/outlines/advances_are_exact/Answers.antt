use Rattle.wc_turn_laws.proofs.Exact.{advances_are_exact}
use Rattle.wc_turn_laws.proofs.outlines.advances_are_exact.Goals as goal

pub returns : goal.returns
returns c = advances_are_exact
