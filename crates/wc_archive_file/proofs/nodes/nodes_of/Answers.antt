use Rattle.wc_archive_file.specs.Archives.{IsNode, node_data}
use Rattle.wc_archive_file.proofs.Items.{all_read, none_so_far, one_more, one_unread}
use Rattle.wc_archive_file.proofs.nodes.nodes_of.Goals as goal

pub loop-item-init : goal.loop-item-init
loop-item-init c = none_so_far node_data IsNode _ _ c.new-nodes.ensures

pub loop-item-preserved : goal.loop-item-preserved
loop-item-preserved c =
    one_more node_data IsNode _ _ c.item-item.result _ _ _ _ c.loop-item-test.true c.item-item.is c.loop-item.invariant c.in_ok-node_of.ensures c.in_ok-push.ensures.ok

pub returns-in_err-node_of : goal.returns-in_err-node_of
returns-in_err-node_of c =
    one_unread node_data IsNode _ _ _ c.item-item.result _ c.from_residual.result _ c.loop-item-test.true c.item-item.is c.deref-item-items.ensures.value c.from_residual.ensures
    c.in_err-node_of.ensures

pub returns : goal.returns
returns c = all_read node_data IsNode _ _ _ _ c.loop-item-test.false c.deref-item-items.ensures.value c.loop-item.invariant
