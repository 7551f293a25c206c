-- Digits read one after another.
use Rattle.std.proofs.Common.{◌≡◌, ℕ, ◌+◌, ◌-◌, ◌*◌, ◌<◌, ◌≤◌, ◌^◌, List, [], ◌∷◌, Bool, true, Some, None, sym, ap, ◌∙◌, arith, if◌then◌else◌, ◌/◌, drop, length, get_or}
use Rattle.std.specs.Char.{is_ascii_digit, digit_value}
use Rattle.std.specs.Str.Parse.{digits_value, digits_value_after}
use Rattle.std.proofs.lemmas.List.{drop_more}
use Rattle.std.proofs.lemmas.Bool.{lt-ltb, le-ltb}
use Rattle.std.proofs.lemmas.Bool.Decides.{nat_tests}
use Rattle.wc_lexer.specs.Tokens.{number_of}

pub digit_is : (b : ℕ) → is_ascii_digit b ≡ true → (48 ≤ b) × (b ≤ 57) × (digit_value b ≡ b - 48)
digit_is b h = grind (arith, nat_tests)

-- digits never lower what they follow
after_ge : (n : ℕ) (ds : List ℕ) → n ≤ digits_value_after 10 n ds
after_ge n [] = omega arith
after_ge n (d ∷ ds) = omega (arith, after_ge (n * 10 + digit_value d) ds)

too_wide_at : (n : ℕ) (rest ds : List ℕ) → digits_value_after 10 n rest ≡ digits_value 10 ds → 2 ^ 63 ≤ n → None ≡ number_of ds
too_wide_at n rest ds e h =
    let k : 2 ^ 63 ≤ digits_value 10 ds = omega (arith, e, after_ge n rest) in
    ap (λ (b : Bool). if b then Some (digits_value 10 ds) else None) (sym (le-ltb _ _ k))

-- the digit at i takes what stands before it past the greatest number
pub too_wide : (ds : List ℕ) (i n d : ℕ) → digits_value_after 10 n (drop i ds) ≡ digits_value 10 ds → i < length ds → is_ascii_digit (get_or ds i 0) ≡ true
    → d ≡ get_or ds i 0 - 48 → (9223372036854775807 - d) / 10 < n → None ≡ number_of ds
too_wide ds i n d e l t k h =
    let b = digit_is (get_or ds i 0) t in
    let m : 2 ^ 63 ≤ n * 10 + digit_value (get_or ds i 0) = omega (arith, b.0, b.1, b.2, k, h) in
    too_wide_at (n * 10 + digit_value (get_or ds i 0)) (drop (i + 1) ds) ds (ap (digits_value_after 10 n) (sym (drop_more ds i 0 l)) ∙ e) m

pub fitting : (n : ℕ) (ds : List ℕ) → n ≡ digits_value 10 ds → n < 2 ^ 63 → Some n ≡ number_of ds
fitting n ds e h =
    let k : digits_value 10 ds < 2 ^ 63 = omega (arith, e) in
    ap (λ m. Some m) e ∙ ap (λ (b : Bool). if b then Some (digits_value 10 ds) else None) (sym (lt-ltb _ _ k))
