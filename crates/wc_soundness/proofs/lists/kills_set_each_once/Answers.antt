use Rattle.wc_soundness.proofs.KilledOnce.{kills_set_each_once}
use Rattle.wc_soundness.proofs.lists.kills_set_each_once.Goals as goal

pub returns : goal.returns
returns c = kills_set_each_once
