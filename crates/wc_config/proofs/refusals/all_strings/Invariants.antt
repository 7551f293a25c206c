use Rattle.std.proofs.Common.{◌≡◌, drop}
use Rattle.toml.specs.View.{items_view}
use Rattle.wc_config.specs.Refusals.{all_strings}
use Rattle.wc_config.proofs.refusals.all_strings.Given as goal

abbrev pub invariant-loop-value : goal.invariant-loop-value
invariant-loop-value l = all_strings (items_view (drop l.value-index l.value-items)) ≡ all_strings (items_view l.value-items)
