use Rattle.std.specs.Prelude.{flat_map}
use Rattle.wc_check.specs.Sought.{found_at}
use Rattle.wc_syntax.specs.Mentions.{mentions}
use Rattle.wc_check.proofs.Leasts.{least_step}
use Rattle.wc_check.proofs.mentions.find_in_files.Goals as goal

pub loop-file-preserved : goal.loop-file-preserved
loop-file-preserved c = least_step (λ x. flat_map (found_at c.args.search.now) (mentions x.value)) _ _ _ c.args.files.now _ c.file-item.result c.loop-file.invariant c.find_in_expr.ensures c.loop-file-test.true c.file-item.is
