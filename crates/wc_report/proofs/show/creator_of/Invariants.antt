use Rattle.std.proofs.Common.{◌≡◌, drop}
use Rattle.wc_report.specs.Shows.{is_create_to, source_of}
use Rattle.wc_report.proofs.show.creator_of.Given as goal

abbrev pub invariant-loop-link : goal.invariant-loop-link
invariant-loop-link l = source_of (is_create_to l.node) (drop l.link-index l.links) ≡ source_of (is_create_to l.node) l.links
