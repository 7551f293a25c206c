use Rattle.wc_cost.proofs.ChainsLowered.{advances_lower}
use Rattle.wc_cost.proofs.turns.advances_lower.Goals as goal

pub returns : goal.returns
returns c = advances_lower
