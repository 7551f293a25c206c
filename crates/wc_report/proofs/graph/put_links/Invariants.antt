use Rattle.std.proofs.Common.{◌≡◌, ◌++◌, drop}
use Rattle.std.specs.Prelude.{string_bytes, flat_map}
use Rattle.wc_report.specs.Shows.{link_line}
use Rattle.wc_report.proofs.graph.put_links.Given as goal

abbrev pub invariant-loop-link : goal.invariant-loop-link
invariant-loop-link l = string_bytes l.out ++ flat_map link_line (drop l.link-index l.links) ≡ string_bytes l.fn.out ++ flat_map link_line l.links
