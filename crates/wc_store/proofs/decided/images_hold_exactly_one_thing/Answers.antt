use Rattle.wc_store.proofs.Holding.{images_hold_one}
use Rattle.wc_store.proofs.decided.images_hold_exactly_one_thing.Goals as goal

pub returns : goal.returns
returns c = images_hold_one
