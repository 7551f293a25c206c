-- A number in a text, as `parse` reads it and as the definition tests it.
use Rattle.std.proofs.Common.{◌≡◌, ℕ, ◌<◌, ◌≤◌, ◌^◌, Bool, true, false, ◌&&◌, List, [], ◌∷◌, length, Option, Some, None, slice_index, nat_lt, if◌then◌else◌, refl, sym, ap, arith, ◌∙◌, Result, Ok, Err, drop, cond, inl, inr}
use Rattle.std.specs.Prelude.{◌==◌, nat_le}
use Rattle.std.proofs.lemmas.Bool.{ltb-true, lt-ltb, le-leb, leb-true}
use Rattle.std.proofs.lemmas.Bool.Decides.{eqb_tells}
use Rattle.std.specs.Result.{result_ok}
use Rattle.std.specs.List.{list_all}
use Rattle.std.specs.Char.{digit_value}
use Rattle.std.specs.Str.Parse.{AllDigits, IsNumeral, ParsesUnsigned, without_leading_plus, digits_value}
use Rattle.wc_cli.specs.Words.{is_numeral, digits_of, within}

both : (a b : Bool) → a && b ≡ true → (a ≡ true) × (b ≡ true)
both true b h = (refl, h)
both false b h = absurd (cc)

joined : (a b : Bool) → a ≡ true → b ≡ true → a && b ≡ true
joined true b p q = q
joined false b p q = absurd (cc)

digits_pass : (ds : List ℕ) → AllDigits 10 ds → list_all (λ d. nat_lt (digit_value d) 10) ds ≡ true
digits_pass [] h = refl
digits_pass (d ∷ ds) h = rw (lt-ltb (digit_value d) 10 h.0) (digits_pass ds h.1)

digits_from : (ds : List ℕ) → list_all (λ d. nat_lt (digit_value d) 10) ds ≡ true → AllDigits 10 ds
digits_from [] e = tt
digits_from (d ∷ ds) e = let parts = both _ _ e in (ltb-true _ _ parts.0, digits_from ds parts.1)

numeral_passes : (ds : List ℕ) → IsNumeral 10 ds → is_numeral ds ≡ true
numeral_passes ds h = joined _ _ (lt-ltb 0 (length ds) h.0) (digits_pass ds h.1)

numeral_from : (ds : List ℕ) → is_numeral ds ≡ true → IsNumeral 10 ds
numeral_from ds e = let parts = both _ _ e in (ltb-true _ _ parts.0, digits_from ds parts.1)

-- what 64 bits hold of a number
abbrev pub held : Option ℕ → Option ℕ
held = within 0 18446744073709551615

abbrev is_held : ℕ → Bool
is_held n = nat_le 0 n && nat_le n 18446744073709551615

wide_is_none : (n : ℕ) → (n < 2 ^ 64 → ⊥) → held (Some n) ≡ None
wide_is_none n h = go (is_held n) refl
  where
    go : (b : Bool) → is_held n ≡ b → (if b then Some n else None) ≡ None
    go true e = let low : n ≤ 18446744073709551615 = leb-true n 18446744073709551615 (both (nat_le 0 n) (nat_le n 18446744073709551615) e).1 in absurd (h (omega (arith, low)))
    go false e = refl

low_is_held : (n : ℕ) → n < 2 ^ 64 → held (Some n) ≡ Some n
low_is_held n h = ap (λ (b : Bool). if b then Some n else None) (joined _ _ (le-leb 0 n (omega arith)) (le-leb n 18446744073709551615 (omega (arith, h))))

not_read : (text : List ℕ) → (IsNumeral 10 text × (digits_value 10 text < 2 ^ 64) → ⊥) → held (digits_of text) ≡ None
not_read text h = go (is_numeral text) refl
  where
    go : (b : Bool) → is_numeral text ≡ b → held (if b then Some (digits_value 10 text) else None) ≡ None
    go true e = wide_is_none (digits_value 10 text) (λ k. h (numeral_from text e, k))
    go false e = refl

is_read : (text : List ℕ) → IsNumeral 10 text → digits_value 10 text < 2 ^ 64 → held (digits_of text) ≡ Some (digits_value 10 text)
is_read text h k = ap (λ (b : Bool). held (if b then Some (digits_value 10 text) else None)) (numeral_passes text h) ∙ low_is_held (digits_value 10 text) k

read_plain : {E : Type 0} (text : List ℕ) (r : Result ℕ E) → ParsesUnsigned 64 10 text r → result_ok r ≡ held (digits_of (without_leading_plus text))
read_plain text (Ok n) h = ap Some h.1 ∙ sym (is_read (without_leading_plus text) h.0.0 h.0.1)
read_plain text (Err x) h = sym (not_read (without_leading_plus text) h)

-- what `parse` reads is what the digits of the text write, where it doesn't begin with a plus
pub reads : {E : Type 0} (text : List ℕ) (r : Result ℕ E) → (slice_index text 0 ≡ 43 → ⊥) → ParsesUnsigned 64 10 text r → result_ok r ≡ held (digits_of text)
reads text r p h = read_plain text r h ∙ ap (λ (b : Bool). held (digits_of (drop (cond b 1 0) text))) (differs _ _ p)
  where
    differs : (n m : ℕ) → (n ≡ m → ⊥) → (n == m) ≡ false
    differs n m h = elim (eqb_tells n m) [ inl e ↦ absurd (h e.1) | inr e ↦ e.0 ]
