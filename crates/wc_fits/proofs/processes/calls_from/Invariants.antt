use Rattle.std.proofs.Common.{◌≡◌, ◌+◌, ◌≤◌, length, drop}
use Rattle.wc_fits.specs.Fits.{calls_from}
use Rattle.wc_fits.proofs.processes.calls_from.Given as goal

abbrev pub invariant-loop-at : goal.invariant-loop-at
invariant-loop-at l = (l.at ≤ length l.links) × (l.count ≡ calls_from l.pid (drop l.at l.links)) × (l.count + l.at ≤ length l.links)

abbrev pub decreases-loop-at : goal.decreases-loop-at
decreases-loop-at l = l.at
