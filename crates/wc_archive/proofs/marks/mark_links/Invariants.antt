use Rattle.std.proofs.Common.{◌≡◌, ℕ, ◌||◌, length, take}
use Rattle.std.specs.List.{list_any}
use Rattle.wc_archive.specs.Marks.{ends_at, is_marked}
use Rattle.wc_archive.proofs.marks.mark_links.Given as goal

abbrev pub invariant-loop-link : goal.invariant-loop-link
invariant-loop-link l = record {
  size : length l.marks.items ≡ length l.fn.marks.items;
  marks : (n : ℕ) → is_marked l.marks.items n ≡ (is_marked l.fn.marks.items n || list_any (ends_at l.below n) (take l.link-index l.links));
}
