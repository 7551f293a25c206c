use Rattle.wc_slurm.proofs.Taken.{next_directive}
use Rattle.wc_slurm.proofs.batch.put_directives.Goals as goal

pub loop-line-preserved : goal.loop-line-preserved
loop-line-preserved c = next_directive _ _ _ _ _ _ _ _ c.loop-line-test.true c.line-item.is c.bytes-content.ensures.value c.is_directive.ensures c.in_ok-put_line.ensures c.loop-line.invariant
