-- The decimal form of a number of 64 bits spells that number.
use Rattle.std.proofs.Common.{◌≡◌, ℕ, zero, suc, Bool, true, false, ◌&&◌, List, Some, slice_index, refl, sym, ap, arith, rules, ◌∙◌, Result, Ok, Err}
use Rattle.std.proofs.lemmas.Fmt.{parse-signed_decimal, first_decimal, decimal_digit}
use Rattle.std.specs.Prelude.{ℤ, pos, negsuc, FitsSigned}
use Rattle.std.specs.Fmt.{decimal, signed_decimal}
use Rattle.std.specs.Int.{w64}
use Rattle.std.specs.Result.{result_ok}
use Rattle.std.specs.Str.Parse.{without_leading_sign, signed_digits_value, ParsesSigned}
use Rattle.wc_expression.specs.Whole.{is_i64, is_numeral, number_of}
use Rattle.wc_expression.proofs.Numbers.{both, joined, numeral_passes, numeral_from, fits_passes, fits_from, parse_reads}

-- what `parse` answers, by the tests that compute
abbrev read_at : Bool → ℤ → Result ℤ ℕ
read_at true z = Ok z
read_at false z = Err 0

reads_at : (text : List ℕ) (b : Bool) → (is_numeral (without_leading_sign text) && is_i64 (signed_digits_value 10 text)) ≡ b
    → ParsesSigned w64 10 text (read_at b (signed_digits_value 10 text))
reads_at text true e = let parts = both _ _ e in ((numeral_from _ parts.0, fits_from _ parts.1), refl)
reads_at text false e = λ h. let k : false ≡ true = sym e ∙ joined _ _ (numeral_passes _ h.0) (fits_passes _ h.1) in absurd (cc)

no_plus : (z : ℤ) → FitsSigned w64 z → slice_index (signed_decimal z) 0 ≡ 43 → ⊥
no_plus (pos zero) h e =
    let first : slice_index (decimal 0) 0 ≡ 48 = ap (λ (ds : List ℕ). slice_index ds 0) (decimal_digit 0 (omega arith)) in
    absurd (omega (arith, first, e))
no_plus (pos (suc n)) h e = absurd (omega (arith, h, e, first_decimal (suc n)))
no_plus (negsuc n) h e = let minus : 45 ≡ 43 = e in absurd (omega (arith, minus))

pub decimal_is : (z : ℤ) → is_i64 z ≡ true → number_of (signed_decimal z) ≡ Some z
decimal_is z h =
    let text = signed_decimal z in
    let fits : FitsSigned w64 z = fits_from z h in
    let b = is_numeral (without_leading_sign text) && is_i64 (signed_digits_value 10 text) in
    let r = read_at b (signed_digits_value 10 text) in
    let reads : ParsesSigned w64 10 text r = reads_at text b refl in
    let ok : r ≡ Ok z = parse-signed_decimal w64 z text r fits (search (rules, fits)) refl reads in
    sym (parse_reads text r (no_plus z fits) reads) ∙ ap result_ok ok
