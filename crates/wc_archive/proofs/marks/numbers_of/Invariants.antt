use Rattle.std.proofs.Common.{◌≡◌, ℕ, length, slice_index}
use Rattle.wc_archive.specs.Closure.{archive_number}
use Rattle.wc_archive.proofs.Marking.{front}
use Rattle.wc_archive.proofs.marks.numbers_of.Given as goal

abbrev pub invariant-loop-id : goal.invariant-loop-id
invariant-loop-id l = record {
  size : length l.numbers.items ≡ l.id;
  count : l.last ≡ length (front l.marks l.id);
  numbers : (n : ℕ) → slice_index l.numbers.items n ≡ archive_number (front l.marks l.id) n;
}
