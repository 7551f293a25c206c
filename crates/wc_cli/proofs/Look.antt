-- What a word looks like, to the definition and to `clap`.
use Rattle.std.proofs.Common.{◌≡◌, ◌∙◌, ◌⊎◌, ◌+◌, ℕ, Bool, true, false, ◌||◌, suc, List, [], ◌∷◌, length, take, drop, Some, None, refl, sym, ap, subst, true≢false, inl, inr, arith, nat_lt, lt-ltb, le-ltb, ltb-true}
use Rattle.std.proofs.lemmas.Bool.{ltb-false, eqb-true}
use Rattle.std.proofs.lemmas.List.{length-append}
use Rattle.std.specs.Prelude.{slice_get, ◌==◌, encode_utf8}
use Rattle.std.specs.List.{before_first, after_first, position_or_len}
use Rattle.std.specs.Str.{bytes_eq, chars, IsUtf8, encode_utf8_all}
use Rattle.std.proofs.lemmas.Str.{encodes-chars, length-encode, len_utf8_ascii}
use Rattle.clap.specs.Words.{Text}
use Rattle.clap.specs.Lexer.{long_of, short_of, name_and_value, has_byte}
use Rattle.wc_cli.specs.Words.{cut_word, is_equals, is_option, is_long}

-- ---- a text cut at its first `=`

one_more : (n m : ℕ) → nat_lt (1 + n) (suc m) ≡ nat_lt n m
one_more n m = go (nat_lt n m) refl
  where
    go : (b : Bool) → nat_lt n m ≡ b → nat_lt (1 + n) (suc m) ≡ b
    go true e = lt-ltb (1 + n) (suc m) (omega (arith, ltb-true n m e))
    go false e = le-ltb (1 + n) (suc m) (omega (arith, ltb-false n m e))

has_equals : (text : Text) → has_byte 61 text ≡ nat_lt (position_or_len is_equals text) (length text)
has_equals [] = refl
has_equals (b ∷ bs) = go (b == 61) refl (has_equals bs)
  where
    go : (e : Bool) → (b == 61) ≡ e → has_byte 61 bs ≡ nat_lt (position_or_len is_equals bs) (length bs) → has_byte 61 (b ∷ bs) ≡ nat_lt (position_or_len is_equals (b ∷ bs)) (length (b ∷ bs))
    go true e more = rw e (sym (lt-ltb 0 (length (b ∷ bs)) (omega arith)))
    go false e more = rw e (more ∙ sym (one_more (position_or_len is_equals bs) (length bs)))

no_equals : (text : Text) → has_byte 61 text ≡ false → before_first is_equals text ≡ text
no_equals [] h = refl
no_equals (b ∷ bs) h = go (b == 61) refl (no_equals bs)
  where
    go : (e : Bool) → (b == 61) ≡ e → (has_byte 61 bs ≡ false → before_first is_equals bs ≡ bs) → before_first is_equals (b ∷ bs) ≡ b ∷ bs
    go true e more = absurd (true≢false (sym (ap (λ (x : Bool). x || has_byte 61 bs) e) ∙ h))
    go false e more = rw e (one_longer ∙ ap (λ (t : Text). b ∷ t) (more (sym (ap (λ (x : Bool). x || has_byte 61 bs) e) ∙ h)))
      where
        one_longer : take (1 + position_or_len is_equals bs) (b ∷ bs) ≡ b ∷ before_first is_equals bs
        one_longer =
            let is : 1 + position_or_len is_equals bs ≡ suc (position_or_len is_equals bs) = omega arith in
            ap (λ (k : ℕ). take k (b ∷ bs)) is

-- `name=value`, or a name alone
abbrev pub Cut : Text → Type 0
Cut text = ((p : Text × Text) × (cut_word text ≡ Some p) × (name_and_value text ≡ (p.0, Some p.1)))
    ⊎ ((cut_word text ≡ None) × (name_and_value text ≡ (text, None)))

pub cut : (text : Text) → Cut text
cut text = go (has_byte 61 text) refl
  where
    go : (b : Bool) → has_byte 61 text ≡ b → Cut text
    go true e = inl ((before_first is_equals text, after_first is_equals text), rw (sym (has_equals text) ∙ e) refl, rw e refl)
    go false e = inr (rw (sym (has_equals text) ∙ e) refl, rw (e, no_equals text e) refl)

-- ---- a word

-- a word is `--`; it begins with `--`, and more stands behind; it begins with one hyphen, and a character stands behind; or it is none of these
abbrev pub IsEnd : Text → Type 0
IsEnd w = (bytes_eq w (45 ∷ 45 ∷ []) ≡ true) × (is_option w ≡ true)

abbrev pub IsLong : Text → Type 0
IsLong w = (bytes_eq w (45 ∷ 45 ∷ []) ≡ false) × (is_long w ≡ true) × (is_option w ≡ true) × (long_of w ≡ Some (name_and_value (drop 2 w)))

abbrev pub IsShort : Text → Type 0
IsShort w = (bytes_eq w (45 ∷ 45 ∷ []) ≡ false) × (is_long w ≡ false) × (is_option w ≡ true) × (long_of w ≡ None)
    × ((b : ℕ) × (bs : Text) × (x : ℕ) × (short_of w ≡ Some (b ∷ bs)) × (slice_get (chars (b ∷ bs)) 0 ≡ Some x))

abbrev pub IsOther : Text → Type 0
IsOther w = (bytes_eq w (45 ∷ 45 ∷ []) ≡ false) × (is_long w ≡ false) × (is_option w ≡ false) × (long_of w ≡ None) × (short_of w ≡ None)

abbrev pub Look : Text → Type 0
Look w = IsEnd w ⊎ IsLong w ⊎ IsShort w ⊎ IsOther w

hyphen : (bs : Text) → chars (45 ∷ bs) ≡ 45 ∷ chars bs
unfolding chars
hyphen [] = refl
hyphen (b ∷ bs) = refl

hyphen_alone : length (encode_utf8_all (45 ∷ [])) ≡ 1
hyphen_alone = length-append (encode_utf8 45) [] ∙ omega (arith, length-encode 45, len_utf8_ascii 45 (omega arith))

-- what stands behind a hyphen begins with a character
first_char : (b : ℕ) (bs : Text) → IsUtf8 (45 ∷ b ∷ bs) → (x : ℕ) × (slice_get (chars (b ∷ bs)) 0 ≡ Some x)
first_char b bs u = go (chars (b ∷ bs)) refl
  where
    go : (cs : List ℕ) → chars (b ∷ bs) ≡ cs → (x : ℕ) × (slice_get (chars (b ∷ bs)) 0 ≡ Some x)
    go (c ∷ cs) e = (c, rw e refl)
    go [] e =
        let all : encode_utf8_all (45 ∷ []) ≡ 45 ∷ b ∷ bs = ap encode_utf8_all (sym (hyphen (b ∷ bs) ∙ ap (λ (t : List ℕ). 45 ∷ t) e)) ∙ encodes-chars (45 ∷ b ∷ bs) u in
        let longer : 1 ≡ suc (suc (length bs)) = sym hyphen_alone ∙ ap length all in
        absurd (omega (arith, longer))

one_byte : (x : ℕ) → IsOther (x ∷ [])
one_byte x = go (x == 45) refl
  where
    go : (b : Bool) → (x == 45) ≡ b → IsOther (x ∷ [])
    go true e = (rw e refl, rw e refl, refl, rw e refl, rw e refl)
    go false e = (rw e refl, rw e refl, refl, rw e refl, rw e refl)

is_more : (x y : ℕ) (r : Text) → nat_lt 1 (length (x ∷ y ∷ r)) ≡ true
is_more x y r = lt-ltb 1 (length (x ∷ y ∷ r)) (omega arith)

two_bytes : (x y : ℕ) (r : Text) → ((x ≡ 45) → (z : ℕ) × (slice_get (chars (y ∷ r)) 0 ≡ Some z)) → (a b : Bool) → (x == 45) ≡ a → (y == 45) ≡ b → Look (x ∷ y ∷ r)
two_bytes x y r first false b e f = inr (inr (inr (rw e refl, rw e refl, rw (is_more x y r, e) refl, rw e refl, rw e refl)))
two_bytes x y r first true false e f =
    let char = first (eqb-true x 45 e) in
    inr (inr (inl (rw (e, f) refl, rw (e, f) refl, rw (is_more x y r, e) refl, rw (e, f) refl, (y, r, char.0, rw (e, f) refl, char.1))))
two_bytes x y [] first true true e f = inl (rw (e, f) refl, rw e refl)
two_bytes x y (z ∷ r) first true true e f = inr (inl (rw (e, f) refl, rw (e, f) refl, rw (is_more x y (z ∷ r), e) refl, rw (e, f) refl))

pub look : (w : Text) → IsUtf8 w → Look w
look [] u = inr (inr (inr (refl, refl, refl, refl, refl)))
look (x ∷ []) u = inr (inr (inr (one_byte x)))
look (x ∷ y ∷ r) u = two_bytes x y r (λ e. first_char y r (subst (λ (c : ℕ). IsUtf8 (c ∷ y ∷ r)) e u)) (x == 45) (y == 45) refl refl
