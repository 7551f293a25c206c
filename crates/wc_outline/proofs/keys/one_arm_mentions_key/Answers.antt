use Rattle.std.proofs.Common.{sym, ◌∙◌}
use Rattle.wc_outline.specs.Keys.{arm_mentions}
use Rattle.wc_outline.proofs.Mentions.{goes_on, ends_there}
use Rattle.wc_outline.proofs.keys.one_arm_mentions_key.Goals as goal

pub returns-then-mentions_key : goal.returns-then-mentions_key
returns-then-mentions_key c = ends_there arm_mentions c.args.key.now c.args.arms.now c.loop-arm.arm-index c.arm-item.result _ c.loop-arm.invariant c.loop-arm-test.true c.arm-item.is (sym c.mentions_key.ensures ∙ c.if-mentions_key.true)

pub loop-arm-preserved : goal.loop-arm-preserved
loop-arm-preserved c = goes_on arm_mentions c.args.key.now c.args.arms.now c.loop-arm.arm-index c.arm-item.result _ c.loop-arm.invariant c.loop-arm-test.true c.arm-item.is (sym c.mentions_key.ensures ∙ c.if-mentions_key.false)
