use Rattle.std.proofs.Common.{take}
use Rattle.std.specs.Prelude.{All}
use Rattle.wc_archive.proofs.Exporting.{HasEndedMarked}
use Rattle.wc_archive.proofs.exported.find_live.Given as goal

abbrev pub invariant-loop-process : goal.invariant-loop-process
invariant-loop-process l = All (HasEndedMarked l.below) (take l.process-index l.process-items)
