use Rattle.std.proofs.Common.{◌≡◌, ℕ, ◌≤◌, false, length, drop}
use Rattle.wc_fits.specs.Records.{has_called}
use Rattle.wc_fits.proofs.processes.caller_of.Given as goal

abbrev pub invariant-loop-at : goal.invariant-loop-at
invariant-loop-at l = record {
  within : l.at ≤ length l.links;
  none : (caller : ℕ) → has_called (drop l.at l.links) caller l.pid ≡ false;
}

abbrev pub decreases-loop-at : goal.decreases-loop-at
decreases-loop-at l = l.at
