use Rattle.std.proofs.Common.{◌≤◌, length, drop}
use Rattle.wc_disk.specs.Noise.{HasNoSync}
use Rattle.wc_disk.proofs.replay.last_sync.Given as goal

abbrev pub invariant-loop-upto : goal.invariant-loop-upto
invariant-loop-upto l = record { within : l.upto ≤ length l.calls; none : HasNoSync (drop l.upto l.calls) }

abbrev pub decreases-loop-upto : goal.decreases-loop-upto
decreases-loop-upto l = l.upto
