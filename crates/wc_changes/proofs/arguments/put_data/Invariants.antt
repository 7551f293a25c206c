use Rattle.std.proofs.Common.{◌≡◌, ◌++◌, drop}
use Rattle.wc_changes.specs.Called.{data_of}
use Rattle.wc_changes.proofs.arguments.put_data.Given as goal

abbrev pub invariant-loop-arg : goal.invariant-loop-arg
invariant-loop-arg l = l.changes ++ data_of (drop l.arg-index l.arg-items) ≡ l.fn.changes ++ data_of l.arg-items
