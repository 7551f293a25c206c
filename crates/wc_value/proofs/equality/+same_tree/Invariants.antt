use Rattle.std.proofs.Common.{◌≡◌, take, length}
use Rattle.wc_value.proofs.equality.+same_tree.Given as goal

abbrev pub invariant-same_branches-loop-at : goal.invariant-same_branches-loop-at
invariant-same_branches-loop-at l = (length l.left ≡ length l.right) × (take l.at l.left ≡ take l.at l.right)
