use Rattle.std.proofs.Common.{◌≡◌, drop}
use Rattle.toml.specs.View.{items_view}
use Rattle.wc_handlers.specs.Refusals.{item_refusals, least_after}
use Rattle.wc_handlers.specs.Seen.{seen}
use Rattle.wc_handlers.proofs.refusals.with_items.Given as goal

abbrev pub invariant-loop-value : goal.invariant-loop-value
invariant-loop-value l =
    least_after (seen l.least) (item_refusals (items_view (drop l.value-index l.value-items))) ≡ least_after (seen l.fn.best) (item_refusals (items_view l.value-items))
