use Rattle.std.proofs.Common.{◌≡◌, ◌++◌, drop}
use Rattle.toml.specs.View.{items_view}
use Rattle.wc_handlers.specs.Specs.{handlers}
use Rattle.wc_handlers.proofs.reading.handlers.Given as goal

abbrev pub invariant-loop-value : goal.invariant-loop-value
invariant-loop-value l = l.found ++ handlers (items_view (drop l.value-index l.value-items)) ≡ handlers (items_view l.value-items)
