use Rattle.std.proofs.Common.{◌≡◌, ◌+◌, ◌++◌, drop}
use Rattle.wc_changes.specs.Called.{added, waited, all_calls}
use Rattle.wc_changes.proofs.children.put_calls.Given as goal

abbrev pub invariant-loop-call : goal.invariant-loop-call
invariant-loop-call l = record {
  number : l.next + added (drop l.call-index l.call-items) ≡ l.first + added l.call-items;
  awaits : l.awaits ++ waited l.next (drop l.call-index l.call-items) ≡ waited l.first l.call-items;
  changes : l.changes ++ all_calls l.caller l.next (drop l.call-index l.call-items) ≡ l.fn.changes ++ all_calls l.caller l.first l.call-items;
}
