use Rattle.wc_drill.proofs.PairCost.{pair_costs_so}
use Rattle.wc_drill.proofs.laws.pair_costs_seventeen.Goals as goal

pub returns : goal.returns
returns c = pair_costs_so
