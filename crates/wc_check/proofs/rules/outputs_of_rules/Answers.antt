use Rattle.std.specs.Prelude.{flat_map}
use Rattle.wc_syntax.specs.Findings.{unknown_output, rule_output}
use Rattle.wc_check.proofs.Leasts.{least_step}
use Rattle.wc_check.proofs.rules.outputs_of_rules.Goals as goal

pub loop-rule-preserved : goal.loop-rule-preserved
loop-rule-preserved c = least_step (λ r. flat_map (unknown_output c.args.outputs.now) (rule_output r)) _ _ _ c.args.rules.now _ c.rule-item.result c.loop-rule.invariant c.output_of_rule.ensures c.loop-rule-test.true c.rule-item.is
