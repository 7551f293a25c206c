use Rattle.wc_check.specs.Sought.{long_in_rule}
use Rattle.wc_check.proofs.Leasts.{least_step}
use Rattle.wc_check.proofs.lengths.long_in_rules.Goals as goal

pub loop-rule-preserved : goal.loop-rule-preserved
loop-rule-preserved c = least_step long_in_rule _ _ _ c.args.rules.now _ c.rule-item.result c.loop-rule.invariant c.long_in_rule.ensures c.loop-rule-test.true c.rule-item.is
