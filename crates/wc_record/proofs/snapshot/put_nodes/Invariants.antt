use Rattle.std.proofs.Common.{drop}
use Rattle.wc_world.specs.Snapshot.{node_changes}
use Rattle.wc_record.proofs.Remaining.{Leaves}
use Rattle.wc_record.proofs.snapshot.put_nodes.Given as goal

abbrev pub invariant-loop-node : goal.invariant-loop-node
invariant-loop-node l = Leaves l.fn.out l.out (node_changes (drop l.node-index l.nodes) l.left) (node_changes l.nodes l.records)
