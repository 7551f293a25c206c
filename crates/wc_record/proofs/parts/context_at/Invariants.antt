use Rattle.std.proofs.Common.{◌≡◌, ◌-◌, ◌≤◌, [], length}
use Rattle.wc_record.specs.Readers.{several}
use Rattle.wc_record.specs.Fields.{pair}
use Rattle.wc_record.proofs.parts.context_at.Given as goal

abbrev pub invariant-loop-item : goal.invariant-loop-item
invariant-loop-item l = record {
  within : l.place ≤ length l.bytes;
  rest : several (l.count - l._item) pair l.context l.bytes l.place ≡ several l.count pair [] l.bytes l.start;
}
