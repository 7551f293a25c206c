-- The value of every expression is within the limits.
use Rattle.std.proofs.Common.{◌≡◌, ℕ, ◌≤◌, Bool, true, false, length, refl, sym, ap, subst, arith, ◌∙◌}
use Rattle.std.specs.Prelude.{nat_le, ◌&&◌, if◌then◌else◌}
use Rattle.std.proofs.lemmas.Bool.Decides.{nat_tests}
use Rattle.wc_value.specs.Spelling.{spelling, depth}
use Rattle.wc_value.specs.declared.process.Reason.TheVariants.{TooLong}
use Rattle.wc_value.specs.declared.value.Value.{Value}
use Rattle.wc_syntax.specs.declared.expression.Expr.{Expr, out-Expr, roll-out-Expr, fold-roll-Expr}
use Rattle.wc_state.specs.declared.environment.Env.{Env}
use Rattle.wc_expression.specs.declared.outcome.Outcome.{Outcome}
use Rattle.wc_expression.specs.declared.outcome.Outcome.TheVariants.{Gives, Faults}
use Rattle.wc_expression.specs.Val.{Meant, is_allowed, sized, form, limited, val, val_form}

sized_at : (w v : Value) (b : Bool) → is_allowed w ≡ b → (if b then Gives w else Faults TooLong) ≡ Gives v → is_allowed v ≡ true
sized_at w v true e h = let k : w ≡ v = cc in subst (λ (z : Value). is_allowed z ≡ true) k e
sized_at w v false e h = absurd (cc)

sized_is : (o : Outcome Value) (v : Value) → sized o ≡ Gives v → is_allowed v ≡ true
sized_is (Gives w) v h = sized_at w v (is_allowed w) refl h
sized_is (Faults r) v h = absurd (cc)

val_is_sized : (e : Expr) (env : Env) → val e env ≡ sized (val_form (out-Expr e).form env)
val_is_sized e env = λ i. (ap val (sym (roll-out-Expr e)) ∙ fold-roll-Expr Meant Meant form limited (out-Expr e)) i env

val_allowed : (e : Expr) (env : Env) (v : Value) → val e env ≡ Gives v → is_allowed v ≡ true
val_allowed e env v h = sized_is (val_form (out-Expr e).form env) v (sym (val_is_sized e env) ∙ h)

both_at : (m n m' n' : ℕ) → (nat_le m m' && nat_le n n') ≡ true → (m ≤ m') × (n ≤ n')
both_at m n m' n' h = (grind (arith, nat_tests), grind (arith, nat_tests))

pub allowed_says : (v : Value) → is_allowed v ≡ true → (length (spelling v) ≤ 4194304) × (depth v ≤ 32)
unfolding is_allowed
allowed_says v h = both_at (length (spelling v)) (depth v) 4194304 32 h

pub val_bytes : (e : Expr) (env : Env) (v : Value) → val e env ≡ Gives v → length (spelling v) ≤ 4194304
val_bytes e env v h = (allowed_says v (val_allowed e env v h)).0

pub val_levels : (e : Expr) (env : Env) (v : Value) → val e env ≡ Gives v → depth v ≤ 32
val_levels e env v h = (allowed_says v (val_allowed e env v h)).1
