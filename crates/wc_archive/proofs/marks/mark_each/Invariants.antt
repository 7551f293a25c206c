use Rattle.std.proofs.Common.{◌≡◌, ℕ, ◌==◌, ◌||◌, length, take}
use Rattle.std.specs.List.{list_any}
use Rattle.wc_archive.specs.Marks.{is_marked}
use Rattle.wc_archive.proofs.marks.mark_each.Given as goal

abbrev pub invariant-loop-id : goal.invariant-loop-id
invariant-loop-id l = record {
  size : length l.marks.items ≡ length l.fn.marks.items;
  marks : (n : ℕ) → is_marked l.marks.items n ≡ (is_marked l.fn.marks.items n || list_any (λ k. k == n) (take l.id-index l.ids));
}
