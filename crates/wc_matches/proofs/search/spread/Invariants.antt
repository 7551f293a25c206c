use Rattle.std.proofs.Common.{◌≡◌, ◌≤◌, length}
use Rattle.wc_matches.specs.Found.{Finds, LeadsBehind}
use Rattle.wc_matches.proofs.search.spread.Given as goal

abbrev pub invariant-loop-at : goal.invariant-loop-at
invariant-loop-at l = record {
  within : l.at ≤ length l.graph.links;
  links : l.links ≡ l.graph.links;
  finds : Finds (LeadsBehind l.forward l.types l.barred l.graph.links l.node l.at) l.fn.marks l.marks l.fn.found.items l.found.items;
}

abbrev pub decreases-loop-at : goal.decreases-loop-at
decreases-loop-at l = l.at
