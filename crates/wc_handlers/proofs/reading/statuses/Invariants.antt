use Rattle.std.proofs.Common.{◌≡◌, ◌++◌, drop}
use Rattle.toml.specs.View.{items_view}
use Rattle.wc_handlers.specs.Specs.{statuses}
use Rattle.wc_handlers.proofs.reading.statuses.Given as goal

abbrev pub invariant-loop-value : goal.invariant-loop-value
invariant-loop-value l = l.found ++ statuses (items_view (drop l.value-index l.value-items)) ≡ statuses (items_view l.value-items)
