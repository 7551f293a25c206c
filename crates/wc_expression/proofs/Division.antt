-- What a division gives and leaves.
use Rattle.std.proofs.Common.{◌≡◌, ℕ, zero, suc, ◌<◌, ◌%◌, Bool, true, false, refl, sym, subst, arith, ◌∙◌}
use Rattle.std.specs.Prelude.{ℤ, pos, negsuc, ◌+ℤ◌, ◌-ℤ◌, ◌*ℤ◌, ◌≤ℤ◌, neg_ℤ, int_div, int_rem, unsigned_abs, if◌then◌else◌}
use Rattle.std.specs.Ordering.{int_eq}
use Rattle.std.proofs.lemmas.Int.{ints, quot-rem, rem_below}
use Rattle.std.proofs.Math.Nat.{mod-le}
use Rattle.std.proofs.Math.IntN.{*ℤ_comm}
use Rattle.wc_value.specs.declared.process.Reason.TheVariants.{DivideByZero, Overflow}
use Rattle.wc_expression.specs.declared.outcome.Outcome.TheVariants.{Gives, Faults}
use Rattle.wc_expression.specs.Whole.{is_i64, within, quotient, remainder}

within_is : (z q : ℤ) (b : Bool) → (if b then Gives z else Faults Overflow) ≡ Gives q → q ≡ z
within_is z q true h = cc
within_is z q false h = absurd (cc)

quotient_at : (a b q : ℤ) (zero : Bool) → (if zero then Faults DivideByZero else within (int_div a b)) ≡ Gives q → q ≡ int_div a b
quotient_at a b q true h = absurd (cc)
quotient_at a b q false h = within_is (int_div a b) q (is_i64 (int_div a b)) h

quotient_is : (a b q : ℤ) → quotient a b ≡ Gives q → q ≡ int_div a b
quotient_is a b q h = quotient_at a b q (int_eq b (pos 0)) h

leaves : (a b : ℤ) → a -ℤ (b *ℤ int_div a b) ≡ int_rem a b
leaves a b =
    let e : b *ℤ int_div a b ≡ int_div a b *ℤ b = *ℤ_comm b (int_div a b) in
    let f : int_div a b *ℤ b +ℤ int_rem a b ≡ a = quot-rem a b in
    omega (arith, ints, e, f)

remainder_at : (a b r : ℤ) (zero : Bool) → int_eq b (pos 0) ≡ zero → (if zero then Faults DivideByZero else Gives (a -ℤ (b *ℤ int_div a b))) ≡ Gives r
    → (r ≡ int_rem a b) × (int_eq b (pos 0) ≡ false)
remainder_at a b r true z h = absurd (cc)
remainder_at a b r false z h = let e : a -ℤ (b *ℤ int_div a b) ≡ r = cc in (sym e ∙ leaves a b, z)

remainder_is : (a b r : ℤ) → remainder a b ≡ Gives r → (r ≡ int_rem a b) × (int_eq b (pos 0) ≡ false)
remainder_is a b r h = remainder_at a b r (int_eq b (pos 0)) refl h

pub makes_whole : (a b q r : ℤ) → quotient a b ≡ Gives q → remainder a b ≡ Gives r → a ≡ (b *ℤ q) +ℤ r
makes_whole a b q r h k =
    sym (quot-rem a b) ∙ (λ i. *ℤ_comm (int_div a b) b i +ℤ int_rem a b) ∙ (λ i. (b *ℤ sym (quotient_is a b q h) i) +ℤ sym (remainder_is a b r k).0 i)

not_zero : (b : ℤ) → int_eq b (pos 0) ≡ false → 0 < unsigned_abs b
not_zero (pos zero) h = absurd (cc)
not_zero (pos (suc n)) h = omega arith
not_zero (negsuc n) h = omega arith

pub leaves_less : (a b r : ℤ) → remainder a b ≡ Gives r → unsigned_abs r < unsigned_abs b
leaves_less a b r h =
    let k = remainder_is a b r h in
    subst (λ (z : ℤ). unsigned_abs z < unsigned_abs b) (sym k.0) (rem_below a b (not_zero b k.1))

rem_above : (a b : ℤ) → pos 0 ≤ℤ a → pos 0 ≤ℤ int_rem a b
rem_above (pos n) b h = omega (arith, ints)
rem_above (negsuc n) b h = absurd (omega (arith, ints))

neg_under : (n : ℕ) → neg_ℤ (pos n) ≤ℤ pos 0
neg_under n = omega (arith, ints)

rem_under : (a b : ℤ) → a ≤ℤ pos 0 → int_rem a b ≤ℤ pos 0
rem_under (pos n) b h = omega (arith, ints, mod-le n (unsigned_abs b))
rem_under (negsuc n) b h = neg_under (suc n % unsigned_abs b)

pub leaves_above : (a b r : ℤ) → remainder a b ≡ Gives r → pos 0 ≤ℤ a → pos 0 ≤ℤ r
leaves_above a b r h p = subst (λ (z : ℤ). pos 0 ≤ℤ z) (sym (remainder_is a b r h).0) (rem_above a b p)

pub leaves_under : (a b r : ℤ) → remainder a b ≡ Gives r → a ≤ℤ pos 0 → r ≤ℤ pos 0
leaves_under a b r h p = subst (λ (z : ℤ). z ≤ℤ pos 0) (sym (remainder_is a b r h).0) (rem_under a b p)
