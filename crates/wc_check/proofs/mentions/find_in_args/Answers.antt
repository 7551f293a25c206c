use Rattle.wc_check.specs.Sought.{found_at}
use Rattle.wc_syntax.specs.Mentions.{mentions}
use Rattle.wc_check.proofs.Leasts.{least_parts}
use Rattle.wc_check.proofs.mentions.find_in_args.Goals as goal

pub loop-arg-preserved : goal.loop-arg-preserved
loop-arg-preserved c = least_parts (found_at c.args.search.now) (λ a. mentions a.value) _ _ _ c.args.args.now _ c.arg-item.result c.loop-arg.invariant c.find_in_expr.ensures c.loop-arg-test.true c.arg-item.is
