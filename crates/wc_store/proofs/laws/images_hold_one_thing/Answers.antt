use Rattle.wc_store.proofs.Playing.{held_is_one}
use Rattle.wc_store.proofs.laws.images_hold_one_thing.Goals as goal

pub returns : goal.returns
returns c = held_is_one
