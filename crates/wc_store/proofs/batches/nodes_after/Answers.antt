use Rattle.std.proofs.Common.{arith}
use Rattle.std.proofs.lemmas.Grind.{common_steps}
use Rattle.wc_store.proofs.Accepts.{nodes_left, none_left, few_nodes, nodes_applied}
use Rattle.wc_store.proofs.batches.nodes_after.Goals as goal

pub overflow_add-count : goal.overflow_add-count
overflow_add-count c =
    let left = nodes_left c.as_slice-change-items.result.now c.loop-change.change-index c.change-item.result c.loop-change-test.true c.change-item.is in
    let few = few_nodes c.args.changes.now in
    grind (arith, common_steps)

pub returns : goal.returns
returns c =
    let left = none_left c.as_slice-change-items.result.now c.loop-change.change-index c.loop-change-test.false in
    let all = nodes_applied c.args.world.now.world c.args.changes.now in
    grind (arith, common_steps)
