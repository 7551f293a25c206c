use Rattle.std.proofs.Common.{◌≡◌, drop}
use Rattle.wc_world.specs.Accepted.{is_in_order}
use Rattle.wc_world.specs.Order.{may_follow}
use Rattle.wc_world.proofs.snapshots.is_in_order.Given as goal

abbrev pub invariant-loop-change : goal.invariant-loop-change
invariant-loop-change l = may_follow l.order (drop l.change-index l.changes) ≡ is_in_order l.changes
