use Rattle.wc_cost.proofs.Prices.{meanings_cost}
use Rattle.wc_cost.proofs.costs.meanings_have_one_price.Goals as goal

pub returns : goal.returns
returns c = meanings_cost
