use Rattle.wc_cost.proofs.Bystanders.{others_owe_the_same}
use Rattle.wc_cost.proofs.touches.others_owe_the_same.Goals as goal

pub returns : goal.returns
returns c = others_owe_the_same
