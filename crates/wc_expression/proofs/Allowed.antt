-- Whether a value is within the limits, by the two facts that it says.
use Rattle.std.proofs.Common.{◌≡◌, ℕ, ◌≤◌, Bool, true, false, refl, arith, length}
use Rattle.std.proofs.lemmas.Bool.Decides.{nat_tests}
use Rattle.std.specs.Prelude.{◌↔◌, IsTrue, nat_le, ◌&&◌}
use Rattle.wc_value.specs.Spelling.{spelling, depth}
use Rattle.wc_value.specs.declared.value.Value.{Value}
use Rattle.wc_expression.specs.Val.{is_allowed}

both : (b : Bool) (m n m' n' : ℕ) → IsTrue b ↔ ((m ≤ m') × (n ≤ n')) → (nat_le m m' && nat_le n n') ≡ b
both true m n m' n' h = let p : m ≤ m' = (h.0 refl).0 in let q : n ≤ n' = (h.0 refl).1 in grind (arith, nat_tests)
both false m n m' n' h = grind (arith, nat_tests, h.1)

pub allowed_is : (b : Bool) (v : Value) → IsTrue b ↔ ((length (spelling v) ≤ 4194304) × (depth v ≤ 32)) → is_allowed v ≡ b
unfolding is_allowed
allowed_is b v h = both b (length (spelling v)) (depth v) 4194304 32 h
