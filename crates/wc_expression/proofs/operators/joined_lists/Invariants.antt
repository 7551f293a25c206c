use Rattle.std.proofs.Common.{◌≡◌, ◌++◌, take}
use Rattle.wc_expression.proofs.operators.joined_lists.Given as goal

abbrev pub invariant-loop-value : goal.invariant-loop-value
invariant-loop-value l = l.joined ≡ l.fn.left ++ take l.value-index l.value-items
