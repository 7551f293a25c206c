use Rattle.std.proofs.Common.{drop}
use Rattle.wc_matches.proofs.Finding.{MarksLeft}
use Rattle.wc_matches.proofs.search.unmark.Given as goal

abbrev pub invariant-loop-node : goal.invariant-loop-node
invariant-loop-node l = MarksLeft l.marks (drop l.node-index l.found)
