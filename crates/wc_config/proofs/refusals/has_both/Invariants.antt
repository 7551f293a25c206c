use Rattle.std.proofs.Common.{◌≡◌, drop}
use Rattle.wc_config.specs.Refusals.{has_both}
use Rattle.wc_config.proofs.refusals.has_both.Given as goal

abbrev pub invariant-loop-name : goal.invariant-loop-name
invariant-loop-name l = has_both (drop l.name-index l.name-items) l.others ≡ has_both l.name-items l.others
