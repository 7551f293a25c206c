use Rattle.wc_cost.proofs.FanCost.{fan_costs}
use Rattle.wc_cost.proofs.small.fan_costs.Goals as goal

pub returns : goal.returns
returns c = fan_costs
