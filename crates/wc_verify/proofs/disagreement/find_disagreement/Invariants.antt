use Rattle.std.proofs.Common.{take}
use Rattle.wc_machine.specs.Recorded.{HasResult}
use Rattle.wc_verify.specs.Noted.{HaveNoted}
use Rattle.wc_verify.proofs.disagreement.find_disagreement.Given as goal

abbrev pub invariant-loop-process : goal.invariant-loop-process
invariant-loop-process l = HaveNoted (HasResult l.world.world) l.world.world (take l.process-index l.process-items) l.firsts
