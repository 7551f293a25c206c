use Rattle.wc_cost.proofs.OneLeft.{left_is_one}
use Rattle.wc_cost.proofs.worlds.left_is_one.Goals as goal

pub returns : goal.returns
returns c = left_is_one
