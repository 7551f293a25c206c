use Rattle.std.proofs.Common.{take}
use Rattle.std.specs.Prelude.{All}
use Rattle.wc_verify.specs.Faults.{IsRight}
use Rattle.wc_verify.proofs.values.find_wrong_value.Given as goal

abbrev pub invariant-loop-process : goal.invariant-loop-process
invariant-loop-process l = All (IsRight l.world.world) (take l.process-index l.process-items)
