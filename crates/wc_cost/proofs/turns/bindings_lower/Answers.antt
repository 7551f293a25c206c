use Rattle.wc_cost.proofs.Bound.{bindings_lower}
use Rattle.wc_cost.proofs.turns.bindings_lower.Goals as goal

pub returns : goal.returns
returns c = bindings_lower
