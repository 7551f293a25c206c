use Rattle.std.proofs.Common.{◌≡◌, drop}
use Rattle.std.specs.Prelude.{flat_map}
use Rattle.wc_syntax.specs.Findings.{unknown_output, rule_output}
use Rattle.wc_check.specs.Least.{least_after}
use Rattle.wc_check.proofs.rules.outputs_of_rules.Given as goal

abbrev pub invariant-loop-rule : goal.invariant-loop-rule
invariant-loop-rule l = least_after l.best (flat_map (λ r. flat_map (unknown_output l.outputs) (rule_output r)) (drop l.rule-index l.rules)) ≡ least_after l.fn.best (flat_map (λ r. flat_map (unknown_output l.outputs) (rule_output r)) l.rules)
