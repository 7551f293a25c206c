use Rattle.std.proofs.Common.{take}
use Rattle.wc_slurm.proofs.Answers.{Tells}
use Rattle.wc_slurm.proofs.queue.parse_queue.Given as goal

abbrev pub invariant-loop-line : goal.invariant-loop-line
invariant-loop-line l = Tells l.told (take l.line-index l.line-items)
