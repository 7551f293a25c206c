use Rattle.std.proofs.Common.{◌≡◌, take, length}
use Rattle.wc_value.proofs.equality.+same.Given as goal

abbrev pub invariant-same_values-loop-at : goal.invariant-same_values-loop-at
invariant-same_values-loop-at l = (length l.left ≡ length l.right) × (take l.at l.left ≡ take l.at l.right)

abbrev pub invariant-same_fields-loop-at : goal.invariant-same_fields-loop-at
invariant-same_fields-loop-at l = (length l.left ≡ length l.right) × (take l.at l.left ≡ take l.at l.right)
