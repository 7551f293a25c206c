use Rattle.std.proofs.Common.{◌≡◌, drop}
use Rattle.std.specs.Prelude.{flat_map}
use Rattle.wc_check.specs.Least.{least_after}
use Rattle.wc_check.specs.Sought.{long_in_rule}
use Rattle.wc_check.proofs.lengths.long_in_rules.Given as goal

abbrev pub invariant-loop-rule : goal.invariant-loop-rule
invariant-loop-rule l = least_after l.best (flat_map long_in_rule (drop l.rule-index l.rules)) ≡ least_after l.fn.best (flat_map long_in_rule l.rules)
