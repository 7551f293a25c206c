use Rattle.wc_world.proofs.ReachedWorlds.{reached_is_consistent}
use Rattle.wc_world.proofs.laws.reached_worlds_are_consistent.Goals as goal

pub returns : goal.returns
returns c = reached_is_consistent
