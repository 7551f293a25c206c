use Rattle.wc_slurm.proofs.Taken.{batch_is}
use Rattle.wc_slurm.proofs.batch.batch_of.Goals as goal

pub returns : goal.returns
returns c = batch_is _ _ _ _ _ _ _ _ _ _ _ _ c.in_ok-batch.ensures c.in_ok-put_directives.ensures c.in_ok-put_directives-2.ensures c.in_ok-put_directives-3.ensures c.in_ok-put_commands.ensures c.in_ok-put_commands-2.ensures c.in_ok-extend.ensures.ok
