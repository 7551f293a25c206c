use Rattle.std.proofs.Common.{◌≡◌, take}
use Rattle.wc_graph.proofs.copies.copy_links.Given as goal

abbrev pub invariant-loop-link : goal.invariant-loop-link
invariant-loop-link l = l.copies.0 ≡ take l.link-index l.link-items
