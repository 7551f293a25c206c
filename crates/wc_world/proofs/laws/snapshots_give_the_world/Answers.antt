use Rattle.wc_world.proofs.ReachedWorlds.{reached_is_consistent}
use Rattle.wc_world.proofs.Snapshot.{consistent_snapshot}
use Rattle.wc_world.proofs.laws.snapshots_give_the_world.Goals as goal

pub returns : goal.returns
returns c = λ w h. consistent_snapshot w (reached_is_consistent w h)
