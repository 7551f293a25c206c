use Rattle.std.proofs.Common.{◌≡◌, ◌-◌, ◌≤◌, [], length}
use Rattle.wc_record.specs.Readers.{several, name}
use Rattle.wc_record.proofs.library.names_at.Given as goal

abbrev pub invariant-loop-item : goal.invariant-loop-item
invariant-loop-item l = record {
  within : l.place ≤ length l.bytes;
  rest : several (l.count - l._item) name l.found l.bytes l.place ≡ several l.count name [] l.bytes l.start;
}
