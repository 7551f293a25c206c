use Rattle.std.proofs.Common.{false, get_or, take}
use Rattle.wc_verify.specs.Faults.{HasResultAmong}
use Rattle.wc_verify.specs.Noted.{HaveNoted}
use Rattle.wc_verify.proofs.jobs.find_disagreement_among.Given as goal

abbrev pub invariant-loop-process : goal.invariant-loop-process
invariant-loop-process l = HaveNoted (HasResultAmong l.world.world (λ pid. get_or l.chosen pid false)) l.world.world (take l.process-index l.process-items) l.firsts
