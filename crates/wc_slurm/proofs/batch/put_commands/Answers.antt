use Rattle.std.proofs.Common.{refl}
use Rattle.wc_slurm.proofs.Taken.{next_command}
use Rattle.wc_slurm.proofs.batch.put_commands.Goals as goal

pub loop-line-preserved : goal.loop-line-preserved
loop-line-preserved c = next_command _ _ _ _ _ _ _ _ _ c.loop-line-test.true c.line-item.is c.bytes-content.ensures.value c.is_directive.ensures refl c.in_ok-put_line.ensures c.loop-line.invariant
