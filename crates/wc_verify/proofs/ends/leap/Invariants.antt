use Rattle.std.proofs.Common.{◌≡◌, ℕ, List, length}
use Rattle.wc_verify.specs.Following.{AreFar, IsWithin}
use Rattle.wc_verify.proofs.Leaping.{AreLeaping}
use Rattle.wc_verify.proofs.ends.leap.Given as goal

abbrev pub invariant-loop-at : goal.invariant-loop-at
invariant-loop-at l = record {
  size : length l.table ≡ length l.fn.table;
  within : IsWithin l.table;
  far : (first : List ℕ) (rank : ℕ → ℕ) (k : ℕ) → AreFar first rank k l.fn.table → AreLeaping first rank k l.at l.table;
}
