use Rattle.wc_cost.proofs.Told.{left_is_there}
use Rattle.wc_cost.proofs.worlds.left_is_there.Goals as goal

pub returns : goal.returns
returns c = left_is_there
