use Rattle.std.proofs.Common.{◌≡◌, ◌-◌, ◌≤◌, [], length}
use Rattle.wc_record.specs.Readers.{several}
use Rattle.wc_record.specs.Fields.{await}
use Rattle.wc_record.proofs.parts.awaits_at.Given as goal

abbrev pub invariant-loop-item : goal.invariant-loop-item
invariant-loop-item l = record {
  within : l.place ≤ length l.bytes;
  rest : several (l.count - l._item) (λ front. await) l.awaits l.bytes l.place ≡ several l.count (λ front. await) [] l.bytes l.start;
}
