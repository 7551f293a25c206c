use Rattle.wc_slurm.proofs.Stale.{SoFar}
use Rattle.wc_slurm.proofs.rounds.look_at_all.Given as goal

abbrev pub invariant-loop-dir : goal.invariant-loop-dir
invariant-loop-dir g l = SoFar l.dirs l.dir-index l.queue (g.S.Scheduler.answers l.fn.scheduler) (g.S.Scheduler.answers l.scheduler)
