use Rattle.wc_store.proofs.Reached.{held_is_reached}
use Rattle.wc_store.proofs.laws.held_worlds_are_reached.Goals as goal

pub returns : goal.returns
returns c = held_is_reached
