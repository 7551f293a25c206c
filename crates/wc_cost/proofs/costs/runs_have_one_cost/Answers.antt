use Rattle.wc_cost.proofs.Prices.{runs_cost}
use Rattle.wc_cost.proofs.costs.runs_have_one_cost.Goals as goal

pub returns : goal.returns
returns c = runs_cost
