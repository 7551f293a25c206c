use Rattle.std.proofs.Common.{◌≡◌, ◌+◌, ◌*◌, ◌≤◌, drop}
use Rattle.wc_changes.specs.Called.{added}
use Rattle.wc_changes.proofs.count.count_added.Given as goal

abbrev pub invariant-loop-call : goal.invariant-loop-call
invariant-loop-call l = record {
  count : l.count + added (drop l.call-index l.call-items) ≡ added l.call-items;
  few : l.count ≤ 4294967296 * l.call-index;
}
