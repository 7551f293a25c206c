use Rattle.wc_turn_laws.proofs.Ordered.{advances_keep_order}
use Rattle.wc_turn_laws.proofs.outlines.advances_keep_order.Goals as goal

pub returns : goal.returns
returns c = advances_keep_order
