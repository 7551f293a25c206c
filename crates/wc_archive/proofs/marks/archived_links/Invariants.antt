use Rattle.std.proofs.Common.{◌≡◌, map, slice_index, take}
use Rattle.std.specs.Prelude.{filter}
use Rattle.wc_subworlds.specs.Parts.{placed}
use Rattle.wc_archive.specs.Marks.{is_marked_link}
use Rattle.wc_archive.proofs.marks.archived_links.Given as goal

abbrev pub invariant-loop-link : goal.invariant-loop-link
invariant-loop-link l = l.kept ≡ map (placed (slice_index l.numbers)) (filter (is_marked_link l.below) (take l.link-index l.links))
