use Rattle.std.proofs.Common.{◌≡◌, take}
use Rattle.wc_value.proofs.copies.+copy_tree.Given as goal

abbrev pub invariant-copy_branches-loop-label : goal.invariant-copy_branches-loop-label
invariant-copy_branches-loop-label l = l.copies ≡ take l.label-index l.label-items
