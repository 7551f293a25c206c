use Rattle.std.proofs.Common.{arith}
use Rattle.wc_record.proofs.Remaining.{leaves_all, nodes_more, nodes_all}
use Rattle.wc_record.proofs.snapshot.put_nodes.Goals as goal

pub loop-node-init : goal.loop-node-init
loop-node-init c = leaves_all _ _

pub loop-node-preserved : goal.loop-node-preserved
loop-node-preserved c =
    nodes_more c.args.nodes.now c.loop-node.node-index c.node-item.result _ _ _ _ _ _ c.loop-node-test.true c.node-item.is c.loop-node.invariant c.in_ok-left.ensures.bytes
    c.in_ok-left.ensures.fits c.in_ok-left.ensures.left

pub returns : goal.returns
returns c =
    let all = nodes_all c.args.nodes.now c.loop-node.node-index _ _ _ _ (omega arith) c.loop-node.invariant in
    record { bytes = all.bytes; fits = all.fits }
