use Rattle.std.proofs.Common.{take}
use Rattle.wc_matches.specs.Joins.{OpenSteps}
use Rattle.wc_matches.specs.Found.{Finds, FromSome}
use Rattle.wc_matches.proofs.search.spread_all.Given as goal

abbrev pub invariant-loop-node : goal.invariant-loop-node
invariant-loop-node l =
    Finds (FromSome (OpenSteps l.forward l.types l.barred l.graph.links) (take l.node-index l.from)) l.fn.marks l.marks l.fn.found.items l.found.items
