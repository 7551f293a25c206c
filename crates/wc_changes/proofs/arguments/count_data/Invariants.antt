use Rattle.std.proofs.Common.{◌≡◌, ◌+◌, ◌≤◌, drop, length}
use Rattle.wc_changes.specs.Called.{data_of}
use Rattle.wc_changes.proofs.arguments.count_data.Given as goal

abbrev pub invariant-loop-arg : goal.invariant-loop-arg
invariant-loop-arg l = record {
  count : l.count + length (data_of (drop l.arg-index l.arg-items)) ≡ length (data_of l.arg-items);
  few : l.count ≤ l.arg-index;
}
