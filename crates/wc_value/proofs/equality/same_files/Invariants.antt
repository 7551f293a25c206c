use Rattle.std.proofs.Common.{◌≡◌, take, length}
use Rattle.wc_value.proofs.equality.same_files.Given as goal

abbrev pub invariant-loop-at : goal.invariant-loop-at
invariant-loop-at l = (length l.left ≡ length l.right) × (take l.at l.left ≡ take l.at l.right)
