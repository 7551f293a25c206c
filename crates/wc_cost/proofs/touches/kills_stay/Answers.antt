use Rattle.wc_cost.proofs.KillsKept.{kills_stay}
use Rattle.wc_cost.proofs.touches.kills_stay.Goals as goal

pub returns : goal.returns
returns c = kills_stay
