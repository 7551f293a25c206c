use Rattle.wc_store.proofs.Holding.{images_hold}
use Rattle.wc_store.proofs.decided.images_hold_something.Goals as goal

pub returns : goal.returns
returns c = images_hold
