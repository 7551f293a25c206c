use Rattle.std.proofs.Common.{◌+◌, ◌-◌, length}
use Rattle.wc_graph.proofs.Ready.{In}
use Rattle.wc_graph.proofs.Placing.{Placing}
use Rattle.wc_graph.proofs.topology.place.Given as goal

abbrev pub invariant-loop-node : goal.invariant-loop-node
invariant-loop-node l = Placing l.graph.nodes l.graph.links l.placed l.waiting.items (In l.ready)

abbrev pub decreases-loop-node : goal.decreases-loop-node
decreases-loop-node l = (length l.graph.nodes + 1) - length l.placed
