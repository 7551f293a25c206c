-- The tokens of a printed text one by one: texts in quotes and numbers.
use Rattle.std.proofs.Common.{◌≡◌, ℕ, suc, ◌+◌, ◌-◌, ◌<◌, ◌^◌, List, [], ◌∷◌, ◌++◌, length, take, Bool, true}
use Rattle.std.proofs.Common.{false, Some, None, Ok, refl, sym, ap, ◌∙◌, arith, append_assoc, if◌then◌else◌, length-append, ℤ, pos, negsuc}
use Rattle.std.specs.Prelude.{◌==◌, flat_map, int_le, int_lt}
use Rattle.std.specs.Char.{is_ascii_digit}
use Rattle.std.specs.Fmt.{decimal, signed_decimal}
use Rattle.std.specs.List.{prefix_len, take_while, list_all}
use Rattle.std.specs.Str.Parse.{digits_value, AllDigits, IsNumeral}
use Rattle.std.proofs.lemmas.Bool.{and_parts, and_from, ltb-true}
use Rattle.std.proofs.lemmas.Bool.Decides.{nat_tests}
use Rattle.std.proofs.lemmas.Fmt.{decimal_is_IsNumeral}
use Rattle.std.proofs.lemmas.List.{take_at}
use Rattle.std.proofs.lemmas.Str.Parse.{digit_from_value}
use Rattle.wc_lexer.specs.declared.token.Token.TheVariants as token
use Rattle.wc_lexer.specs.Tokens.{◌>>=◌, joined, is_separator, begins_name, is_in_name, closing, unescaped, Read, number_of, numbered, quoted_to, name_at, number_at, quoted_at, sign_at, token_at}
use Rattle.wc_lexer.proofs.Numbers.{fitting}
use Rattle.wc_syntax.specs.declared.expression.Number.{Number}
use Rattle.wc_syntax.specs.declared.expression.Quoted.{Quoted}
use Rattle.wc_syntax.specs.Printing.{escape, quoted_text, number_text}
use Rattle.wc_syntax.specs.Writable.{is_number}
use Rattle.wc_parser.specs.PrintedTokens.{number, text}
use Rattle.wc_parser.proofs.LexedPieces.{Reads}
use Rattle.wc_parser.proofs.LexedWords.{begins, is_pointed, run_stops, no_digit, same_read, token_reads}

-- ---- texts
-- how a byte is escaped, by the tests on it
abbrev escape_by : ℕ → Bool → Bool → Bool → Bool → List ℕ
escape_by b x y z w =
    if x then 92 ∷ 92 ∷ []
    else if y then 92 ∷ 34 ∷ []
    else if z then 92 ∷ 110 ∷ []
    else if w then 92 ∷ 116 ∷ []
    else b ∷ []

two_more : (at : ℕ) (bs : List ℕ) → closing (at + 1 + 1) false bs ≡ closing (at + 2) false bs
two_more at bs = let e : at + 1 + 1 ≡ at + 2 = omega arith in ap (λ (n : ℕ). closing n false bs) e

closes_at : (b at : ℕ) (bs : List ℕ) (x y z w : Bool) → (b == 92) ≡ x → (b == 34) ≡ y → (b == 10) ≡ z
    → closing at false (escape_by b x y z w ++ bs) ≡ closing (at + length (escape_by b x y z w)) false bs
closes_at b at bs true y z w e f g = two_more at bs
closes_at b at bs false true z w e f g = two_more at bs
closes_at b at bs false false true w e f g = two_more at bs
closes_at b at bs false false false true e f g = two_more at bs
closes_at b at bs false false false false e f g =
    ap (λ (t : Bool). if t then None else (if b == 34 then Some at else closing (at + 1) (b == 92) bs)) g
    ∙ ap (λ (t : Bool). if t then Some at else closing (at + 1) (b == 92) bs) f
    ∙ ap (λ (t : Bool). closing (at + 1) t bs) e

closes : (text : List ℕ) (at : ℕ) (rest : List ℕ) → closing at false (flat_map escape text ++ 34 ∷ rest) ≡ Some (at + length (flat_map escape text))
closes [] at rest = let n : at ≡ at + 0 = omega arith in ap (λ (m : ℕ). Some m) n
closes (b ∷ bs) at rest =
    let n : at + length (escape b) + length (flat_map escape bs) ≡ at + length (escape b ++ flat_map escape bs) = omega (arith, length-append (escape b) (flat_map escape bs)) in
    ap (closing at false) (append_assoc (escape b) (flat_map escape bs) (34 ∷ rest))
    ∙ closes_at b at (flat_map escape bs ++ 34 ∷ rest) (b == 92) (b == 34) (b == 10) (b == 9) refl refl refl
    ∙ closes bs (at + length (escape b)) rest ∙ ap (λ (m : ℕ). Some m) n

means_at : (b at : ℕ) (bs us : List ℕ) (x y z w : Bool) → (b == 92) ≡ x → (b == 34) ≡ y → (b == 10) ≡ z → (b == 9) ≡ w
    → ((n : ℕ) → unescaped n false bs ≡ Ok us) → unescaped at false (escape_by b x y z w ++ bs) ≡ Ok (b ∷ us)
means_at b at bs us true y z w e f g h k = let q : 92 ≡ b = grind (arith, nat_tests) in ap (joined (92 ∷ [])) (k (at + 1 + 1)) ∙ ap (λ (m : ℕ). Ok (m ∷ us)) q
means_at b at bs us false true z w e f g h k = let q : 34 ≡ b = grind (arith, nat_tests) in ap (joined (34 ∷ [])) (k (at + 1 + 1)) ∙ ap (λ (m : ℕ). Ok (m ∷ us)) q
means_at b at bs us false false true w e f g h k = let q : 10 ≡ b = grind (arith, nat_tests) in ap (joined (10 ∷ [])) (k (at + 1 + 1)) ∙ ap (λ (m : ℕ). Ok (m ∷ us)) q
means_at b at bs us false false false true e f g h k = let q : 9 ≡ b = grind (arith, nat_tests) in ap (joined (9 ∷ [])) (k (at + 1 + 1)) ∙ ap (λ (m : ℕ). Ok (m ∷ us)) q
means_at b at bs us false false false false e f g h k =
    ap (λ (t : Bool). if t then unescaped (at + 1) true bs else joined (b ∷ []) (unescaped (at + 1) false bs)) e ∙ ap (joined (b ∷ [])) (k (at + 1))

means : (text : List ℕ) (at : ℕ) → unescaped at false (flat_map escape text) ≡ Ok text
means [] at = refl
means (b ∷ bs) at = means_at b at (flat_map escape bs) bs (b == 92) (b == 34) (b == 10) (b == 9) refl refl refl refl (means bs)

abbrev as_text : ℕ → List ℕ → Read
as_text end text = Ok (token.Quoted text, end + 1)

text_at : (at : ℕ) (text rest : List ℕ) → token_at at (34 ∷ ((flat_map escape text ++ 34 ∷ []) ++ rest)) ≡ Ok (token.Quoted text, at + suc (length (flat_map escape text ++ 34 ∷ [])))
unfolding token_at
text_at at text rest =
    let w = flat_map escape text in
    let end = at + 1 + length w in
    let n : end - (at + 1) ≡ length w = omega arith in
    let m : end + 1 ≡ at + suc (length (w ++ 34 ∷ [])) = omega (arith, length-append w (34 ∷ [])) in
    let inside : take (end - (at + 1)) (w ++ 34 ∷ rest) ≡ w = ap (λ (k : ℕ). take k (w ++ 34 ∷ rest)) n ∙ take_at w (34 ∷ rest) (length w) refl in
    ap (quoted_at at) (ap (λ z. 34 ∷ z) (append_assoc w (34 ∷ []) rest))
    ∙ ap (quoted_to at (w ++ 34 ∷ rest)) (closes text (at + 1) rest)
    ∙ ap (λ z. unescaped (at + 1) false z >>= as_text end) inside
    ∙ ap (λ r. r >>= as_text end) (means text (at + 1))
    ∙ same_read (token.Quoted text) (token.Quoted text) (end + 1) (at + suc (length (w ++ 34 ∷ []))) refl m

pub text_reads : (q : Quoted) (rest : List ℕ) → Reads (quoted_text q) (text q) rest
text_reads q rest = token_reads (token.Quoted q.text) 34 (flat_map escape q.text ++ 34 ∷ []) rest refl refl (λ at. text_at at q.text rest)

-- ---- numbers
digit_apart : (b : ℕ) → is_ascii_digit b ≡ true → (begins_name b ≡ false) × ((is_separator b ≡ false) × ((b == 35) ≡ false))
digit_apart b h = (grind (arith, nat_tests), (grind (arith, nat_tests), grind (arith, nat_tests)))

digits_pass : (ds : List ℕ) → AllDigits 10 ds → list_all is_ascii_digit ds ≡ true
digits_pass [] h = refl
digits_pass (d ∷ ds) h =
    let r = digit_from_value d h.0 in
    and_from (is_ascii_digit d) (list_all is_ascii_digit ds) (grind (arith, nat_tests)) (digits_pass ds h.1)

digits_at : (at b : ℕ) (l rest : List ℕ) (m : ℕ) → list_all is_ascii_digit (b ∷ l) ≡ true → begins is_ascii_digit rest ≡ false → m ≡ digits_value 10 (b ∷ l) → m < 2 ^ 63
    → token_at at (b ∷ (l ++ rest)) ≡ Ok (token.Number (pos m), at + suc (length l))
unfolding token_at
digits_at at b l rest m h k e f =
    let bs = b ∷ (l ++ rest) in
    let digit = (and_parts (is_ascii_digit b) (list_all is_ascii_digit l) h).0 in
    let n : prefix_len is_ascii_digit bs ≡ suc (length l) = run_stops is_ascii_digit (b ∷ l) rest h k in
    let w : take_while is_ascii_digit bs ≡ b ∷ l = ap (λ (i : ℕ). take i bs) n ∙ take_at (b ∷ l) rest (length (b ∷ l)) refl in
    ap (λ (x : Bool). if x then name_at at bs else (if is_ascii_digit b then number_at at bs else (if b == 34 then quoted_at at bs else sign_at at bs))) (digit_apart b digit).0
    ∙ ap (λ (x : Bool). if x then number_at at bs else (if b == 34 then quoted_at at bs else sign_at at bs)) digit
    ∙ ap (λ (i : ℕ). numbered at (at + i) (number_of (take_while is_ascii_digit bs))) n
    ∙ ap (λ z. numbered at (at + suc (length l)) (number_of z)) w
    ∙ ap (numbered at (at + suc (length l))) (sym (fitting m (b ∷ l) e f))

numeral_reads : (ds rest : List ℕ) (m : ℕ) → IsNumeral 10 ds → digits_value 10 ds ≡ m → m < 2 ^ 63 → begins is_in_name rest ≡ false → Reads ds (token.Number (pos m) ∷ []) rest
numeral_reads [] rest m h e f k = absurd (omega (arith, h.0))
numeral_reads (b ∷ l) rest m h e f k =
    let p = digits_pass (b ∷ l) h.1 in
    let a = digit_apart b (and_parts (is_ascii_digit b) (list_all is_ascii_digit l) p).0 in
    token_reads (token.Number (pos m)) b l rest a.1.0 a.1.1 (λ at. digits_at at b l rest m p (no_digit rest k) (sym e) f)

spelled_reads : (z : ℤ) (rest : List ℕ) → int_le (pos 0) z ≡ true → int_lt z (pos (2 ^ 63)) ≡ true
    → begins is_in_name rest ≡ false → Reads (signed_decimal z) (token.Number z ∷ []) rest
spelled_reads (pos m) rest h e k =
    let f : m < 2 ^ 63 = ltb-true _ _ e in
    let d = decimal_is_IsNumeral m (omega (arith, f)) in
    numeral_reads (decimal m) rest m d.0 d.1 f k
spelled_reads (negsuc m) rest h e k = absurd (cc)

-- what is said of a number that a file may say
no_sign : (n : Number) → is_number n ≡ true → int_le (pos 0) n.value ≡ true
no_sign n h = (and_parts (int_le (pos 0) n.value) (int_lt n.value (pos (2 ^ 63))) h).0

fits_in : (n : Number) → is_number n ≡ true → int_lt n.value (pos (2 ^ 63)) ≡ true
fits_in n h = (and_parts (int_le (pos 0) n.value) (int_lt n.value (pos (2 ^ 63))) h).1

pub number_reads : (n : Number) (rest : List ℕ) → is_number n ≡ true → begins is_in_name rest ≡ false → Reads (number_text n) (number n) rest
number_reads n rest h k = spelled_reads n.value rest (no_sign n h) (fits_in n h) k

-- no number begins with `>`
digit_unpointed : (ds rest : List ℕ) → IsNumeral 10 ds → is_pointed (ds ++ rest) ≡ false
digit_unpointed [] rest h = absurd (omega (arith, h.0))
digit_unpointed (b ∷ l) rest h = let r = digit_from_value b h.1.0 in grind (arith, nat_tests)

spelled_unpointed : (z : ℤ) (rest : List ℕ) → int_le (pos 0) z ≡ true → int_lt z (pos (2 ^ 63)) ≡ true → is_pointed (signed_decimal z ++ rest) ≡ false
spelled_unpointed (pos m) rest h g =
    let f : m < 2 ^ 63 = ltb-true _ _ g in
    digit_unpointed (decimal m) rest (decimal_is_IsNumeral m (omega (arith, f))).0
spelled_unpointed (negsuc m) rest h g = absurd (cc)

pub number_unpointed : (n : Number) (rest : List ℕ) → is_number n ≡ true → is_pointed (number_text n ++ rest) ≡ false
number_unpointed n rest h = spelled_unpointed n.value rest (no_sign n h) (fits_in n h)
