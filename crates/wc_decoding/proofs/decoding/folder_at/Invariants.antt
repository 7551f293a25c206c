use Rattle.std.proofs.Common.{◌≡◌, ◌-◌, ◌≤◌, [], length}
use Rattle.wc_value.specs.Reading.{several, entry_at, content_at}
use Rattle.wc_decoding.proofs.decoding.folder_at.Given as goal

abbrev pub invariant-loop-item : goal.invariant-loop-item
invariant-loop-item l = record {
  within : l.place ≤ length l.bytes;
  rest : several (l.count - l._item) (entry_at (content_at l.bytes) l.bytes) l.files l.place ≡ several l.count (entry_at (content_at l.bytes) l.bytes) [] l.start;
}
