use Rattle.std.specs.Prelude.{flat_map}
use Rattle.wc_check.specs.Sought.{found_at}
use Rattle.wc_syntax.specs.Mentions.{mentions}
use Rattle.wc_check.proofs.Leasts.{least_step}
use Rattle.wc_check.proofs.mentions.find_in_job_args.Goals as goal

pub loop-line-preserved : goal.loop-line-preserved
loop-line-preserved c = least_step (λ x. flat_map (found_at c.args.search.now) (mentions x.value)) _ _ _ c.args.lines.now _ c.line-item.result c.loop-line.invariant c.find_in_expr.ensures c.loop-line-test.true c.line-item.is
