use Rattle.wc_cost.proofs.TurnsLowered.{turns_lower}
use Rattle.wc_cost.proofs.turns.turns_lower.Goals as goal

pub returns : goal.returns
returns c = turns_lower
