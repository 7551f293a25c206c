use Rattle.std.proofs.Common.{◌≡◌, ◌++◌, drop}
use Rattle.toml.specs.View.{items_view}
use Rattle.wc_config.specs.Settings.{strings}
use Rattle.wc_config.proofs.reading.strings.Given as goal

abbrev pub invariant-loop-value : goal.invariant-loop-value
invariant-loop-value l = l.names ++ strings (items_view (drop l.value-index l.value-items)) ≡ strings (items_view l.value-items)
