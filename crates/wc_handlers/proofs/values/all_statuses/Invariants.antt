use Rattle.std.proofs.Common.{◌≡◌, drop}
use Rattle.toml.specs.View.{items_view}
use Rattle.wc_handlers.specs.Values.{all_statuses}
use Rattle.wc_handlers.proofs.values.all_statuses.Given as goal

abbrev pub invariant-loop-value : goal.invariant-loop-value
invariant-loop-value l = all_statuses (items_view (drop l.value-index l.value-items)) ≡ all_statuses (items_view l.value-items)
