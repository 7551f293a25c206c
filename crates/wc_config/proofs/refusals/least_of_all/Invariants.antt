use Rattle.std.proofs.Common.{◌≡◌, None}
use Rattle.toml.specs.View.{members_view}
use Rattle.wc_config.specs.Refusals.{all_refusals, least_after}
use Rattle.wc_config.specs.Seen.{seen}
use Rattle.wc_config.proofs.refusals.least_of_all.Given as goal

abbrev pub invariant-loop-key : goal.invariant-loop-key
invariant-loop-key l =
    least_after None (all_refusals (members_view l.table.entries)) ≡ least_after (seen l.least) (all_refusals (members_view l.key-iterator))
