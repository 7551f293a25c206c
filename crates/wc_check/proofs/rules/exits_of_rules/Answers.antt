use Rattle.std.specs.Prelude.{flat_map}
use Rattle.wc_syntax.specs.Findings.{undeclared, rule_status}
use Rattle.wc_check.proofs.Leasts.{least_step}
use Rattle.wc_check.proofs.rules.exits_of_rules.Goals as goal

pub loop-rule-preserved : goal.loop-rule-preserved
loop-rule-preserved c = least_step (λ r. flat_map (undeclared c.args.declared.now) (rule_status r)) _ _ _ c.args.rules.now _ c.rule-item.result c.loop-rule.invariant c.exit_of_rule.ensures c.loop-rule-test.true c.rule-item.is
