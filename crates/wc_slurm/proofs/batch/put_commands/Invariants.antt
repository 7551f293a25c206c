use Rattle.std.proofs.Common.{take}
use Rattle.wc_slurm.specs.Batch.{is_command}
use Rattle.wc_slurm.proofs.Taken.{HasPut}
use Rattle.wc_slurm.proofs.batch.put_commands.Given as goal

abbrev pub invariant-loop-line : goal.invariant-loop-line
invariant-loop-line l = HasPut is_command l.fn.text (take l.line-index l.lines) l.text
