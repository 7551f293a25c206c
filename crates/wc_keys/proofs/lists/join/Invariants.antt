use Rattle.std.proofs.Common.{◌≡◌, ◌≤◌, length, drop, vec_capacity}
use Rattle.wc_keys.specs.Order.{earlier, joined}
use Rattle.wc_keys.specs.Gaps.{HasGap, NoneBefore}
use Rattle.wc_keys.proofs.lists.join.Given as goal

abbrev pub invariant-loop-gap : goal.invariant-loop-gap
invariant-loop-gap l = record {
  short : l.seals ≡ l.fn.seals;
  left : l.gap ≤ length l.seals;
  gap : HasGap l.long.items (joined l.fn.long.items (drop l.gap l.seals)) l.at l.gap;
  none : NoneBefore earlier (joined l.fn.long.items (drop l.gap l.seals)) l.at l.seals l.gap;
  capacity : vec_capacity l.long ≡ vec_capacity l.fn.long;
}

abbrev pub decreases-loop-gap : goal.decreases-loop-gap
decreases-loop-gap l = l.gap
