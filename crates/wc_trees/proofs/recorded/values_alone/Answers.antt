use Rattle.std.proofs.Common.{ap, ◌∙◌}
use Rattle.wc_value.specs.Ascending.{goes_last}
use Rattle.wc_trees.proofs.Valued.{next_goes, alone_next}
use Rattle.wc_trees.proofs.recorded.values_alone.Goals as goal

pub push-requires : goal.push-requires
push-requires c =
    let es = c.as_slice-name-items in
    ap (goes_last c.in_ok-copy.field-0) c.loop-name.invariant
    ∙ next_goes c.in_ok-copy.field-0 es.result.now c.loop-name.name-index c.loop-name-item.result _ es.ensures.ascends c.loop-name-test.true c.loop-name-item.is c.in_ok-copy.ensures

pub loop-name-preserved : goal.loop-name-preserved
loop-name-preserved c =
    alone_next c.as_slice-name-items.result.now c.loop-name.name-index c.loop-name-item.result _ c.in_ok-copy.field-0 c.in_ok-copy-2.field-0 c.loop-name.fields _
    c.loop-name-test.true c.loop-name-item.is c.in_ok-copy.ensures c.in_ok-copy-2.ensures c.loop-name.invariant c.in_ok-push.ensures.ok
