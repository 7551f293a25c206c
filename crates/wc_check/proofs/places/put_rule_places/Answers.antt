use Rattle.std.proofs.Common.{[], ◌∷◌, ◌++◌, ◌∙◌, ap, sym, append-nil, map}
use Rattle.wc_syntax.specs.Findings.{rule_at}
use Rattle.wc_check.proofs.Gathered.{map_turn, whole}
use Rattle.wc_check.proofs.places.put_rule_places.Goals as goal

pub loop-rule-init : goal.loop-rule-init
loop-rule-init c = sym (append-nil c.args.found.now.items)

pub loop-rule-preserved : goal.loop-rule-preserved
loop-rule-preserved c = map_turn rule_at _ _ _ c.args.rules.now c.loop-rule.rule-index c.rule-item.result c.loop-rule.invariant (c.in_ok-push.ensures.items ∙ ap (λ n. c.loop-rule.found.items ++ n ∷ []) c.rule_at.ensures) c.loop-rule-test.true c.rule-item.is

pub returns : goal.returns
returns c = whole (map rule_at) _ _ c.args.rules.now c.loop-rule.rule-index c.loop-rule.invariant c.loop-rule-test.false
