-- The order of a snapshot's changes, read from the first to the last.
use Rattle.std.specs.Prelude.{Bool, false, List}
use Rattle.wc_world.specs.declared.change.Change.{Change}
use Rattle.wc_world.specs.declared.change.Change.TheVariants as change
use Rattle.wc_world.specs.declared.snapshots.Order.{Order}
use Rattle.wc_world.specs.declared.snapshots.Order.TheVariants as order
use Rattle.wc_world.specs.Fits.{is_nil}
use Rattle.wc_world.specs.Accepted.{ends_in_count, is_in_order}

-- where a change stands that is no Kept and no Count
abbrev pub after_other : Order → Order
after_other order.Others = order.Others
after_other order.Kepts = order.Wrong
after_other order.Ended = order.Wrong
after_other order.Wrong = order.Wrong

-- where a batch stands in its order after a Kept
abbrev pub after_kept : Order → Order
after_kept order.Others = order.Kepts
after_kept order.Kepts = order.Kepts
after_kept order.Ended = order.Wrong
after_kept order.Wrong = order.Wrong

-- where a batch stands in its order after a Count
abbrev pub after_count : Order → Order
after_count order.Others = order.Ended
after_count order.Kepts = order.Ended
after_count order.Ended = order.Wrong
after_count order.Wrong = order.Wrong

-- where a batch stands in its order after a change
abbrev pub order_after : Order → Change → Order
order_after o (change.Library l names) = after_other o
order_after o (change.Data v) = after_other o
order_after o (change.Process n) = after_other o
order_after o (change.Link l) = after_other o
order_after o (change.Set s) = after_other o
order_after o (change.Count n) = after_count o
order_after o (change.Kept k) = after_kept o

-- whether the changes may follow
abbrev pub may_follow : Order → List Change → Bool
may_follow order.Others cs = is_in_order cs
may_follow order.Kepts cs = ends_in_count cs
may_follow order.Ended cs = is_nil cs
may_follow order.Wrong cs = false
