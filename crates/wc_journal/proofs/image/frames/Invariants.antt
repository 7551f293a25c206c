use Rattle.std.proofs.Common.{◌-◌, length}
use Rattle.wc_journal.proofs.Loading.{AreUpTo}
use Rattle.wc_journal.proofs.image.frames.Given as goal

abbrev pub invariant-loop-gate : goal.invariant-loop-gate
invariant-loop-gate l = AreUpTo l.version l.generation l.image l.frames l.gate

abbrev pub decreases-loop-gate : goal.decreases-loop-gate
decreases-loop-gate l = length l.image - l.gate
