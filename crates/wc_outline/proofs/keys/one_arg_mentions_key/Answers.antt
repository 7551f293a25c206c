use Rattle.std.proofs.Common.{sym, ◌∙◌}
use Rattle.wc_syntax.specs.Mentions.{mentions}
use Rattle.wc_outline.proofs.Mentions.{goes_on, ends_there}
use Rattle.wc_outline.proofs.keys.one_arg_mentions_key.Goals as goal

pub returns-then-mentions_key : goal.returns-then-mentions_key
returns-then-mentions_key c = ends_there (λ a. mentions a.value) c.args.key.now c.args.args.now c.loop-arg.arg-index c.arg-item.result _ c.loop-arg.invariant c.loop-arg-test.true c.arg-item.is (sym c.mentions_key.ensures ∙ c.if-mentions_key.true)

pub loop-arg-preserved : goal.loop-arg-preserved
loop-arg-preserved c = goes_on (λ a. mentions a.value) c.args.key.now c.args.args.now c.loop-arg.arg-index c.arg-item.result _ c.loop-arg.invariant c.loop-arg-test.true c.arg-item.is (sym c.mentions_key.ensures ∙ c.if-mentions_key.false)
