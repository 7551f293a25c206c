-- The characters of a text as they stand between quotes.
use Rattle.std.proofs.Common.{◌≡◌, ℕ, suc, ◌<◌, ◌≤◌, ◌==◌, Bool, true, false, List, [], ◌∷◌, ◌++◌, length, get_or, encode_utf8, refl, sym, ap, ◌∙◌, arith, append_assoc, append-nil}
use Rattle.std.specs.Prelude.{flat_map, nat_lt}
use Rattle.std.proofs.lemmas.Bool.Decides.{nat_tests}
use Rattle.std.proofs.lemmas.Str.{encode_ascii, inside_one}
use Rattle.wc_syntax.specs.Printing.{escape}

-- each byte of a character past ASCII is past ASCII
wide_byte : (c k : ℕ) → 128 ≤ c → k < length (encode_utf8 c) → 128 ≤ get_or (encode_utf8 c) k 0
wide_byte c k h lt = grind (arith, inside_one c [] (encode_utf8 c) k (sym (append-nil (encode_utf8 c))) lt)

escape_wide : (b : ℕ) → 128 ≤ b → escape b ≡ b ∷ []
escape_wide b h = grind (arith, nat_tests)

escape_plain : (c : ℕ) → (c == 92) ≡ false → (c == 34) ≡ false → (c == 10) ≡ false → (c == 9) ≡ false → escape c ≡ c ∷ []
escape_plain c h k l m = grind (arith, nat_tests)

keeps : (bs : List ℕ) → ((k : ℕ) → k < length bs → 128 ≤ get_or bs k 0) → flat_map escape bs ≡ bs
keeps [] h = refl
keeps (b ∷ bs) h =
    ap (λ z. z ++ flat_map escape bs) (escape_wide b (h 0 (omega arith)))
    ∙ ap (λ z. b ∷ z) (keeps bs (λ k l. h (suc k) (omega (arith, l))))

pub escaped_char : (c : ℕ) → c < 128 → flat_map escape (encode_utf8 c) ≡ escape c
escaped_char c h = ap (flat_map escape) (encode_ascii c h) ∙ append-nil (escape c)

plain_by : (c : ℕ) (wide : Bool) → nat_lt c 128 ≡ wide → (c == 92) ≡ false → (c == 34) ≡ false → (c == 10) ≡ false → (c == 9) ≡ false → flat_map escape (encode_utf8 c) ≡ encode_utf8 c
plain_by c true e h k l m =
    let low : c < 128 = grind (arith, nat_tests) in
    escaped_char c low ∙ escape_plain c h k l m ∙ sym (encode_ascii c low)
plain_by c false e h k l m = let high : 128 ≤ c = grind (arith, nat_tests) in keeps (encode_utf8 c) (λ i lt. wide_byte c i high lt)

pub plain_char : (c : ℕ) → (c == 92) ≡ false → (c == 34) ≡ false → (c == 10) ≡ false → (c == 9) ≡ false → flat_map escape (encode_utf8 c) ≡ encode_utf8 c
plain_char c h k l m = plain_by c (nat_lt c 128) refl h k l m

flat_map-append : (xs ys : List ℕ) → flat_map escape (xs ++ ys) ≡ flat_map escape xs ++ flat_map escape ys
flat_map-append [] ys = refl
flat_map-append (x ∷ xs) ys = ap (λ z. escape x ++ z) (flat_map-append xs ys) ∙ sym (append_assoc (escape x) (flat_map escape xs) (flat_map escape ys))

-- what is written with one more character, before what follows it
pub char_step : (out new old rest : List ℕ) (c : ℕ) → old ≡ encode_utf8 c ++ rest → new ≡ out ++ flat_map escape (encode_utf8 c) → new ++ flat_map escape rest ≡ out ++ flat_map escape old
char_step out new old rest c e h =
    ap (λ z. z ++ flat_map escape rest) h ∙ append_assoc out (flat_map escape (encode_utf8 c)) (flat_map escape rest)
    ∙ ap (λ z. out ++ z) (sym (flat_map-append (encode_utf8 c) rest) ∙ ap (flat_map escape) (sym e))
