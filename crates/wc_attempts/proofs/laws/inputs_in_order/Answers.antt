use Rattle.wc_attempts.proofs.Good.{in_order_is}
use Rattle.wc_attempts.proofs.laws.inputs_in_order.Goals as goal

pub returns : goal.returns
returns c = in_order_is
