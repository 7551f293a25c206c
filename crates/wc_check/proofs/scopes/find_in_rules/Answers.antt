use Rattle.wc_check.specs.Scopes.{scope_seen}
use Rattle.wc_check.proofs.Scoped.{rules_step}
use Rattle.wc_check.proofs.scopes.find_in_rules.Goals as goal

pub loop-rule-preserved : goal.loop-rule-preserved
loop-rule-preserved c =
    rules_step _ _ _ _ (scope_seen c.loop-rule.scope) (scope_seen c.go_behind.new.self) c.args.rules.now _ c.rule-item.result
    c.loop-rule.invariant c.let_repeats.ensures c.find_in_rule.ensures c.in_ok-go_behind.ensures c.loop-rule-test.true c.rule-item.is
