use Rattle.std.proofs.Common.{◌≡◌, drop, []}
use Rattle.wc_plan.specs.Settings.{with_names}
use Rattle.wc_plan.proofs.settings.entries_on.Given as goal

abbrev pub invariant-loop-definition : goal.invariant-loop-definition
invariant-loop-definition l = with_names l.settings (drop l.definition-index l.definition-items) l.names ≡ with_names l.settings l.definition-items []
