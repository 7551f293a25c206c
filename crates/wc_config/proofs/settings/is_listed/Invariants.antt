use Rattle.std.proofs.Common.{◌≡◌, drop}
use Rattle.wc_config.specs.Settings.{is_listed}
use Rattle.wc_config.proofs.settings.is_listed.Given as goal

abbrev pub invariant-loop-one : goal.invariant-loop-one
invariant-loop-one l = is_listed l.name (drop l.one-index l.one-items) ≡ is_listed l.name l.one-items
