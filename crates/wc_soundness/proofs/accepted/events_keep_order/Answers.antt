use Rattle.wc_soundness.proofs.Parts.{events_keep_order}
use Rattle.wc_soundness.proofs.accepted.events_keep_order.Goals as goal

pub returns : goal.returns
returns c = events_keep_order
