use Rattle.std.proofs.Common.{◌≤◌, length, drop}
use Rattle.wc_check.specs.Signed.{AreSignatures}
use Rattle.wc_check.proofs.calls.all_signatures.Given as goal

abbrev pub invariant-loop-at : goal.invariant-loop-at
invariant-loop-at l = record {
  within : l.at ≤ length l.library;
  signed : AreSignatures l.signatures (drop l.at l.library);
}

abbrev pub decreases-loop-at : goal.decreases-loop-at
decreases-loop-at l = l.at
