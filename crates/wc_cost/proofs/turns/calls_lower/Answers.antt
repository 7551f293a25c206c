use Rattle.wc_cost.proofs.CallsLowered.{calls_lower}
use Rattle.wc_cost.proofs.turns.calls_lower.Goals as goal

pub returns : goal.returns
returns c = calls_lower
