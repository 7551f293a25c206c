use Rattle.wc_cost.proofs.CostAdvance.{advances_cost_one}
use Rattle.wc_cost.proofs.costs.advances_cost_one.Goals as goal

pub returns : goal.returns
returns c = advances_cost_one
