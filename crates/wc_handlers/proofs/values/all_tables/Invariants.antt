use Rattle.std.proofs.Common.{◌≡◌, drop}
use Rattle.toml.specs.View.{items_view}
use Rattle.wc_handlers.specs.Values.{all_tables}
use Rattle.wc_handlers.proofs.values.all_tables.Given as goal

abbrev pub invariant-loop-value : goal.invariant-loop-value
invariant-loop-value l = all_tables (items_view (drop l.value-index l.value-items)) ≡ all_tables (items_view l.value-items)
