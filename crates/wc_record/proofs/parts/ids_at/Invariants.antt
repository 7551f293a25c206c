use Rattle.std.proofs.Common.{◌≡◌, ◌-◌, ◌≤◌, [], length}
use Rattle.wc_record.specs.Readers.{several, u32}
use Rattle.wc_record.proofs.parts.ids_at.Given as goal

abbrev pub invariant-loop-item : goal.invariant-loop-item
invariant-loop-item l = record {
  within : l.place ≤ length l.bytes;
  rest : several (l.count - l._item) (λ front. u32) l.found l.bytes l.place ≡ several l.count (λ front. u32) [] l.bytes l.start;
}
