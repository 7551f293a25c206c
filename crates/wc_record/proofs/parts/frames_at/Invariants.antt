use Rattle.std.proofs.Common.{◌≡◌, ◌-◌, ◌≤◌, [], length}
use Rattle.wc_record.specs.Readers.{several}
use Rattle.wc_record.specs.Fields.{frame}
use Rattle.wc_record.proofs.parts.frames_at.Given as goal

abbrev pub invariant-loop-item : goal.invariant-loop-item
invariant-loop-item l = record {
  within : l.place ≤ length l.bytes;
  rest : several (l.count - l._item) (λ front. frame) l.frames l.bytes l.place ≡ several l.count (λ front. frame) [] l.bytes l.start;
}
