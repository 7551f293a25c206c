use Rattle.toml.specs.View.{items_view}
use Rattle.wc_handlers.specs.Refusals.{item_refusals, least_after}
use Rattle.wc_handlers.specs.Seen.{seen}
use Rattle.wc_handlers.proofs.Least.{least-of_item}
use Rattle.wc_handlers.proofs.refusals.with_items.Goals as goal

pub loop-value-preserved : goal.loop-value-preserved
loop-value-preserved c =
    let values = c.as_slice-value-items.result.now in
    least-of_item (seen c.loop-value.least) (seen c.in_ok-least.least) values c.loop-value.value-index c.value-item.result
    (least_after (seen c.args.best) (item_refusals (items_view values))) c.loop-value-test.true c.value-item.is c.in_ok-least.ensures c.loop-value.invariant
