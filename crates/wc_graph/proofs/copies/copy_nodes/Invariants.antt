use Rattle.std.proofs.Common.{◌≡◌, take}
use Rattle.wc_graph.proofs.copies.copy_nodes.Given as goal

abbrev pub invariant-loop-node : goal.invariant-loop-node
invariant-loop-node l = l.copies.0 ≡ take l.node-index l.node-items
