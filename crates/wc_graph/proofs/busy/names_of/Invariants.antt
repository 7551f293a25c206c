use Rattle.std.proofs.Common.{◌≤◌, length}
use Rattle.wc_graph.specs.Labels.{HasFrom}
use Rattle.wc_graph.proofs.busy.names_of.Given as goal

abbrev pub invariant-loop-at : goal.invariant-loop-at
invariant-loop-at l = (l.at ≤ length l.links) × HasFrom l.end l.links l.node l.names l.at

abbrev pub decreases-loop-at : goal.decreases-loop-at
decreases-loop-at l = l.at
