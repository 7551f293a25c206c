use Rattle.std.proofs.Common.{◌≡◌, length}
use Rattle.wc_matches.proofs.Masked.{AreOwnBelow}
use Rattle.wc_matches.proofs.masks.put_own.Given as goal

abbrev pub invariant-loop-place : goal.invariant-loop-place
invariant-loop-place l = record {
  size : length l.own ≡ length l.fn.own;
  own : AreOwnBelow l.ends l.place l.own;
}
