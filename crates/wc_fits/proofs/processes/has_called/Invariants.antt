use Rattle.std.proofs.Common.{◌≡◌, ◌≤◌, false, length, drop}
use Rattle.wc_fits.specs.Records.{has_called}
use Rattle.wc_fits.proofs.processes.has_called.Given as goal

abbrev pub invariant-loop-at : goal.invariant-loop-at
invariant-loop-at l = (l.at ≤ length l.links) × (has_called (drop l.at l.links) l.caller l.pid ≡ false)

abbrev pub decreases-loop-at : goal.decreases-loop-at
decreases-loop-at l = l.at
