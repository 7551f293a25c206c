use Rattle.wc_cost.proofs.CalculationsLowered.{calculation_turns_lower}
use Rattle.wc_cost.proofs.turns.calculation_turns_lower.Goals as goal

pub returns : goal.returns
returns c = calculation_turns_lower
