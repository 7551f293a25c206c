-- A whole number in a text, as `parse` reads it and as the definition tests it.
use Rattle.std.proofs.Common.{◌≡◌, ℕ, ◌<◌, ◌^◌, Bool, true, false, ◌&&◌, not, ◌==◌, List, [], ◌∷◌, length, Some, None, slice_index, nat_lt, if◌then◌else◌, refl, sym, ap, arith, rules, ◌∙◌, inl, inr, Result, Ok, Err}
use Rattle.std.proofs.lemmas.Bool.{ltb-true, lt-ltb}
use Rattle.std.proofs.lemmas.Bool.Decides.{eqb_tells}
use Rattle.std.specs.Prelude.{ℤ, pos, negsuc, FitsSigned}
use Rattle.std.specs.Int.{w64}
use Rattle.std.specs.Result.{result_ok}
use Rattle.std.specs.List.{list_all}
use Rattle.std.specs.Char.{digit_value}
use Rattle.std.specs.Str.Parse.{AllDigits, IsNumeral, without_leading_sign, signed_digits_value, ParsesSigned}
use Rattle.wc_expression.specs.Whole.{is_i64, is_numeral, is_number, number_of}

pub both : (a b : Bool) → a && b ≡ true → (a ≡ true) × (b ≡ true)
both true b h = (refl, h)
both false b h = absurd (cc)

pub joined : (a b : Bool) → a ≡ true → b ≡ true → a && b ≡ true
joined true b p q = q
joined false b p q = absurd (cc)

digits_pass : (ds : List ℕ) → AllDigits 10 ds → list_all (λ d. nat_lt (digit_value d) 10) ds ≡ true
digits_pass [] h = refl
digits_pass (d ∷ ds) h = rw (lt-ltb (digit_value d) 10 h.0) (digits_pass ds h.1)

digits_from : (ds : List ℕ) → list_all (λ d. nat_lt (digit_value d) 10) ds ≡ true → AllDigits 10 ds
digits_from [] e = tt
digits_from (d ∷ ds) e = let parts = both _ _ e in (ltb-true _ _ parts.0, digits_from ds parts.1)

pub numeral_passes : (ds : List ℕ) → IsNumeral 10 ds → is_numeral ds ≡ true
numeral_passes ds h = joined _ _ (lt-ltb 0 (length ds) h.0) (digits_pass ds h.1)

pub numeral_from : (ds : List ℕ) → is_numeral ds ≡ true → IsNumeral 10 ds
numeral_from ds e = let parts = both _ _ e in (ltb-true _ _ parts.0, digits_from ds parts.1)

pub fits_passes : (z : ℤ) → FitsSigned w64 z → is_i64 z ≡ true
fits_passes (pos n) h = lt-ltb n (2 ^ 63) (omega (arith, h))
fits_passes (negsuc n) h = lt-ltb n (2 ^ 63) (omega (arith, h))

pub fits_from : (z : ℤ) → is_i64 z ≡ true → FitsSigned w64 z
fits_from (pos n) e = let h : n < 2 ^ 63 = ltb-true n (2 ^ 63) e in search (rules, h)
fits_from (negsuc n) e = let h : n < 2 ^ 63 = ltb-true n (2 ^ 63) e in search (rules, h)

-- what makes a text a number
abbrev pub Spells : List ℕ → Type 0
Spells text = IsNumeral 10 (without_leading_sign text) × FitsSigned w64 (signed_digits_value 10 text)

not_false : (b : Bool) → b ≡ false → not b ≡ true
not_false true p = absurd (cc)
not_false false p = refl

pub number_is : (text : List ℕ) → (slice_index text 0 == 43) ≡ false → Spells text → number_of text ≡ Some (signed_digits_value 10 text)
number_is text p h =
    let passes : is_number text ≡ true
    = joined _ _ (not_false _ p) (joined _ _ (numeral_passes _ h.0) (fits_passes _ h.1)) in
    ap (λ (b : Bool). if b then Some (signed_digits_value 10 text) else None) passes

pub no_number : (text : List ℕ) → ¬ (Spells text) → number_of text ≡ None
no_number text h = go (is_number text) refl
  where
    go : (b : Bool) → is_number text ≡ b → number_of text ≡ None
    go false t = rw t refl
    go true t =
        let outer = both _ _ t in
        let inner = both _ _ outer.1 in
        absurd (h (numeral_from _ inner.0, fits_from _ inner.1))

differs : (n m : ℕ) → (n ≡ m → ⊥) → (n == m) ≡ false
differs n m h = elim (eqb_tells n m) [ inl e ↦ absurd (h e.1) | inr e ↦ e.0 ]

-- what `parse` reads is the number that the text spells, where the text doesn't begin with a plus
pub parse_reads : {E : Type 0} (text : List ℕ) (r : Result ℤ E) → (slice_index text 0 ≡ 43 → ⊥) → ParsesSigned w64 10 text r → result_ok r ≡ number_of text
parse_reads text (Ok z) other h = ap Some h.1 ∙ sym (number_is text (differs _ _ other) h.0)
parse_reads text (Err e) other h = sym (no_number text h)
