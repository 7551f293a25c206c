use Rattle.std.proofs.Common.{◌≡◌, drop}
use Rattle.std.specs.Prelude.{flat_map}
use Rattle.wc_syntax.specs.Findings.{undeclared, rule_status}
use Rattle.wc_check.specs.Least.{least_after}
use Rattle.wc_check.proofs.rules.exits_of_rules.Given as goal

abbrev pub invariant-loop-rule : goal.invariant-loop-rule
invariant-loop-rule l = least_after l.best (flat_map (λ r. flat_map (undeclared l.declared) (rule_status r)) (drop l.rule-index l.rules)) ≡ least_after l.fn.best (flat_map (λ r. flat_map (undeclared l.declared) (rule_status r)) l.rules)
