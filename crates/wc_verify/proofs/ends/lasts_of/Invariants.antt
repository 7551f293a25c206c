use Rattle.std.proofs.Common.{◌≡◌, ℕ, length}
use Rattle.wc_verify.specs.Following.{AreFar, IsWithin, GoesDown}
use Rattle.wc_verify.proofs.ends.lasts_of.Given as goal

abbrev pub invariant-loop-round : goal.invariant-loop-round
invariant-loop-round l = record {
  size : length l.leaps.items ≡ length l.fn.table.items;
  within : IsWithin l.leaps.items;
  far : (rank : ℕ → ℕ) → GoesDown l.most rank l.fn.table.items → AreFar l.fn.table.items rank l._round l.leaps.items;
}
