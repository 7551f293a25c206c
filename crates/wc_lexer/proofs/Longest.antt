-- The token that is read at a place is spelled there, and no longer token begins there.
use Rattle.std.proofs.Common.{◌≡◌, ℕ, suc, ◌+◌, ◌-◌, ◌<◌, ◌≤◌, ◌^◌, List, [], ◌∷◌, ◌++◌, length, take, drop, Bool, true, false, Option, Some, None, Result, Ok, Err, refl, sym, ap, ◌∙◌, subst, arith, ◌⊎◌, inl, inr, append_assoc, if◌then◌else◌, length-append, pos}
use Rattle.std.specs.Prelude.{◌==◌, ◌&&◌, not, nat_lt, nat_eq, cond}
use Rattle.std.specs.Char.{is_ascii_digit}
use Rattle.std.specs.List.{prefix_len, take_while, list_all, starts_with, AllByRecursion}
use Rattle.std.specs.Str.Parse.{digits_value}
use Rattle.std.proofs.lemmas.Bool.{and_parts, and_from, or_left, ltb-true, eqb-true, false≢true, not-true}
use Rattle.std.proofs.lemmas.Bool.Decides.{nat_tests}
use Rattle.std.proofs.lemmas.List.{take-append-drop, length-take, length-take-le, take_at}
use Rattle.std.proofs.lemmas.List.Sums.{prefix_len-le-length}
use Rattle.std.proofs.lemmas.Slice.Eq.{bytes_eq-Decides}
use Rattle.wc_lexer.specs.declared.token.Token.{Token}
use Rattle.wc_lexer.specs.declared.token.Token.TheVariants.{Name, Number, Quoted, Word, Symbol}
use Rattle.wc_lexer.specs.declared.token.Word.{Word as AWord}
use Rattle.wc_lexer.specs.declared.token.Symbol.{Symbol as ASymbol}
use Rattle.wc_lexer.specs.declared.error.LexError.{LexError}
use Rattle.wc_lexer.specs.Spellings.{symbol_text, word_of, symbol_of}
use Rattle.wc_lexer.specs.Tokens.{◌>>=◌, begins_name, is_in_name, closing, unescaped, Read, named_as, named, number_of, numbered, quoted_to, signed, name_at, number_at, quoted_at, sign_at, token_at}
use Rattle.wc_lexer.specs.Cuts.{is_letters, is_numeral, IsPiece, written, IsQuoted, Spells, IsLongest, Fits}
use Rattle.wc_lexer.proofs.Signs.{word_letters, is_sign, symbol_sign, symbol_some, longest_sign, sign_stands, word_spelled}
use Rattle.wc_lexer.proofs.Pieces.{Pieces, closing_splits, pieces_of, content_same}

-- ---- what a spelling begins with
abbrev pub First : List ℕ → Type 0
First bs = (is_letters bs ≡ true) ⊎ ((is_numeral bs ≡ true) ⊎ (((text : List ℕ) × IsQuoted text bs) ⊎ ((s : ASymbol) × (bs ≡ symbol_text s))))

pub first_is : (t : Token) (bs : List ℕ) → Spells t bs → First bs
first_is (Name text) bs h = inl h.0
first_is (Number n) bs h = inr (inl h.0)
first_is (Quoted text) bs h = inr (inr (inl (text, h)))
first_is (Word w) bs h = inl (ap is_letters h ∙ word_letters w)
first_is (Symbol s) bs h = inr (inr (inr (s, h)))

pub letter_no_digit : (b : ℕ) → begins_name b ≡ true → is_ascii_digit b ≡ true → ⊥
letter_no_digit b h k = grind (arith, nat_tests)

pub quote_first : (text : List ℕ) (b : ℕ) (bs : List ℕ) → IsQuoted text (b ∷ bs) → b ≡ 34
quote_first text b bs h = let e : b ∷ bs ≡ 34 ∷ (written h.0 ++ 34 ∷ []) = h.1.1.1 in cc

pub sign_first : (s : ASymbol) (b : ℕ) (bs : List ℕ) → b ∷ bs ≡ symbol_text s → (begins_name b ≡ false) × ((is_ascii_digit b ≡ false) × ((b == 34) ≡ false))
sign_first s b bs h =
    let e : is_sign (b ∷ bs) ≡ true = ap is_sign h ∙ symbol_sign s in
    let k = and_parts (not (begins_name b) && not (is_ascii_digit b)) (not (b == 34)) e in
    let l = and_parts (not (begins_name b)) (not (is_ascii_digit b)) k.0 in
    (not-true _ l.0, (not-true _ l.1, not-true _ k.1))

pub letters_first : (b : ℕ) (bs : List ℕ) → is_letters (b ∷ bs) ≡ true → begins_name b ≡ true
letters_first b bs h = (and_parts (begins_name b) (list_all is_in_name bs) h).0

pub numeral_first : (b : ℕ) (bs : List ℕ) → is_numeral (b ∷ bs) ≡ true → is_ascii_digit b ≡ true
numeral_first b bs h = (and_parts (is_ascii_digit b) (list_all is_ascii_digit bs) h).0

pub no_first : First [] → ⊥
no_first (inl h) = absurd (cc)
no_first (inr (inl h)) = absurd (cc)
no_first (inr (inr (inl h))) = let e : [] ≡ 34 ∷ (written h.1.0 ++ 34 ∷ []) = h.1.1.1.1 in absurd (cc)
no_first (inr (inr (inr h))) = absurd (false≢true (ap is_sign h.1 ∙ symbol_sign h.0))

-- by the first byte the spelling is of one kind
letters_alone : (c : ℕ) (cs : List ℕ) → begins_name c ≡ true → First (c ∷ cs) → is_letters (c ∷ cs) ≡ true
letters_alone c cs l (inl h) = h
letters_alone c cs l (inr (inl h)) = absurd (letter_no_digit c l (numeral_first c cs h))
letters_alone c cs l (inr (inr (inl h))) = absurd (false≢true (ap begins_name (sym (quote_first h.0 c cs h.1)) ∙ l))
letters_alone c cs l (inr (inr (inr h))) = absurd (false≢true (sym (sign_first h.0 c cs h.1).0 ∙ l))

numeral_alone : (c : ℕ) (cs : List ℕ) → is_ascii_digit c ≡ true → First (c ∷ cs) → is_numeral (c ∷ cs) ≡ true
numeral_alone c cs l (inl h) = absurd (letter_no_digit c (letters_first c cs h) l)
numeral_alone c cs l (inr (inl h)) = h
numeral_alone c cs l (inr (inr (inl h))) = absurd (false≢true (ap is_ascii_digit (sym (quote_first h.0 c cs h.1)) ∙ l))
numeral_alone c cs l (inr (inr (inr h))) = absurd (false≢true (sym (sign_first h.0 c cs h.1).1.0 ∙ l))

quoted_alone : (c : ℕ) (cs : List ℕ) → c ≡ 34 → First (c ∷ cs) → (text : List ℕ) × IsQuoted text (c ∷ cs)
quoted_alone c cs l (inl h) = absurd (false≢true (ap begins_name (sym l) ∙ letters_first c cs h))
quoted_alone c cs l (inr (inl h)) = absurd (false≢true (ap is_ascii_digit (sym l) ∙ numeral_first c cs h))
quoted_alone c cs l (inr (inr (inl h))) = h
quoted_alone c cs l (inr (inr (inr h))) = absurd (false≢true (sym (sign_first h.0 c cs h.1).1.1 ∙ ap (λ (z : ℕ). z == 34) l))

sign_alone : (c : ℕ) (cs : List ℕ) → begins_name c ≡ false → is_ascii_digit c ≡ false → (c == 34) ≡ false → First (c ∷ cs) → (s : ASymbol) × (c ∷ cs ≡ symbol_text s)
sign_alone c cs l m n (inl h) = absurd (false≢true (sym l ∙ letters_first c cs h))
sign_alone c cs l m n (inr (inl h)) = absurd (false≢true (sym m ∙ numeral_first c cs h))
sign_alone c cs l m n (inr (inr (inl h))) = absurd (false≢true (sym n ∙ ap (λ (z : ℕ). z == 34) (quote_first h.0 c cs h.1)))
sign_alone c cs l m n (inr (inr (inr h))) = h

-- a spelling in front of bytes begins with their first
abbrev Begins : (ℕ → List ℕ → Type 0) → List ℕ → Type 0
Begins P longer = (c : ℕ) × (cs : List ℕ) × ((longer ≡ c ∷ cs) × P c cs)

begun : (b : ℕ) (bs longer after : List ℕ) → b ∷ bs ≡ longer ++ after → First longer → (cs : List ℕ) × ((longer ≡ b ∷ cs) × First (b ∷ cs))
begun b bs [] after e h = absurd (no_first h)
begun b bs (c ∷ cs) after e h =
    let q : c ≡ b = cc in
    (cs, (ap (λ (z : ℕ). z ∷ cs) q, subst (λ (z : ℕ). First (z ∷ cs)) q h))

-- ---- runs
pass_prefix : (p : ℕ → Bool) (xs ys : List ℕ) → list_all p xs ≡ true → length xs ≤ prefix_len p (xs ++ ys)
pass_prefix p [] ys h = omega arith
pass_prefix p (x ∷ xs) ys h =
    let k = and_parts (p x) (list_all p xs) h in
    let e : prefix_len p (x ∷ (xs ++ ys)) ≡ 1 + prefix_len p (xs ++ ys) = ap (λ b. cond b (1 + prefix_len p (xs ++ ys)) 0) k.0 in
    omega (arith, e, pass_prefix p xs ys k.1)

run_at : (p : ℕ → Bool) (x : ℕ) (xs : List ℕ) (b : Bool) → p x ≡ b → list_all p (take_while p xs) ≡ true → list_all p (take (cond b (1 + prefix_len p xs) 0) (x ∷ xs)) ≡ true
run_at p x xs true e k =
    let q : suc (prefix_len p xs) ≡ 1 + prefix_len p xs = omega arith in
    subst (λ (m : ℕ). list_all p (take m (x ∷ xs)) ≡ true) q (and_from (p x) (list_all p (take_while p xs)) e k)
run_at p x xs false e k = refl

run_passes : (p : ℕ → Bool) (xs : List ℕ) → list_all p (take_while p xs) ≡ true
run_passes p [] = refl
run_passes p (x ∷ xs) = run_at p x xs (p x) refl (run_passes p xs)

-- a run from the first byte is as long as any list of such bytes in front
run_longest : (p : ℕ → Bool) (whole longer after : List ℕ) → whole ≡ longer ++ after → list_all p longer ≡ true → length longer ≤ length (take_while p whole)
run_longest p whole longer after e h =
    let k : length longer ≤ prefix_len p whole = subst (λ z. length longer ≤ prefix_len p z) (sym e) (pass_prefix p longer after h) in
    omega (arith, k, length-take-le (prefix_len p whole) whole (prefix_len-le-length p whole))

pub letters_all : (bs : List ℕ) → is_letters bs ≡ true → list_all is_in_name bs ≡ true
letters_all [] h = refl
letters_all (b ∷ bs) h =
    let k = and_parts (begins_name b) (list_all is_in_name bs) h in
    and_from (is_in_name b) (list_all is_in_name bs) (or_left (begins_name b) (is_ascii_digit b) k.0) k.1

-- the first byte stands in the run that it begins
pub run_first : (p : ℕ → Bool) (b : ℕ) (bs : List ℕ) → p b ≡ true → take_while p (b ∷ bs) ≡ b ∷ take_while p bs
run_first p b bs h =
    let q : suc (prefix_len p bs) ≡ 1 + prefix_len p bs = omega arith in
    ap (λ (t : Bool). take (cond t (1 + prefix_len p bs) 0) (b ∷ bs)) h ∙ ap (λ (m : ℕ). take m (b ∷ bs)) (sym q)

run_length : (p : ℕ → Bool) (bs : List ℕ) → length (take_while p bs) ≡ prefix_len p bs
run_length p bs = length-take-le (prefix_len p bs) bs (prefix_len-le-length p bs)

-- ---- what a token that was read says
-- the bytes are its spelling and a rest, it is the longest there, and it ends at the place
pub record Stands (at : ℕ) (bs : List ℕ) (token : Token) (end : ℕ) : Type 0 where
  pub lexeme : List ℕ
  pub rest : List ℕ
  pub splits : bs ≡ lexeme ++ rest
  pub spells : Spells token lexeme
  pub fits : Fits token
  pub longest : IsLongest lexeme rest
  pub ends : end ≡ at + length lexeme
  pub some : 0 < length lexeme

longest_from : (b : ℕ) (bs lexeme rest : List ℕ) → b ∷ bs ≡ lexeme ++ rest
    → ((cs after : List ℕ) → b ∷ bs ≡ (b ∷ cs) ++ after → First (b ∷ cs) → length (b ∷ cs) ≤ length lexeme) → IsLongest lexeme rest
longest_from b bs lexeme rest e k other longer after h s =
    let g = begun b bs longer after (e ∙ h) (first_is other longer s) in
    let m : length (b ∷ g.0) ≤ length lexeme = k g.0 after (e ∙ h ∙ ap (λ z. z ++ after) g.1.0) g.1.1 in
    subst (λ z. length z ≤ length lexeme) (sym g.1.0) m

run_splits : (p : ℕ → Bool) (bs : List ℕ) → bs ≡ take_while p bs ++ drop (prefix_len p bs) bs
run_splits p bs = sym (take-append-drop (prefix_len p bs) bs)

run_some : (p : ℕ → Bool) (b : ℕ) (bs : List ℕ) → p b ≡ true → 0 < length (take_while p (b ∷ bs))
run_some p b bs h = let e : length (take_while p (b ∷ bs)) ≡ suc (length (take_while p bs)) = ap length (run_first p b bs h) in omega (arith, e)

in_name : (b : ℕ) → begins_name b ≡ true → is_in_name b ≡ true
in_name b h = or_left (begins_name b) (is_ascii_digit b) h

letters_run : (b : ℕ) (bs : List ℕ) → begins_name b ≡ true → is_letters (take_while is_in_name (b ∷ bs)) ≡ true
letters_run b bs h = ap is_letters (run_first is_in_name b bs (in_name b h)) ∙ and_from (begins_name b) (list_all is_in_name (take_while is_in_name bs)) h (run_passes is_in_name bs)

pub named_spells : (letters : List ℕ) (o : Option AWord) → word_of letters ≡ o → is_letters letters ≡ true → Spells (named_as letters o) letters
named_spells letters None e h = (h, e, refl)
named_spells letters (Some w) e h = word_spelled letters w e

named_fits : (letters : List ℕ) (o : Option AWord) → Fits (named_as letters o)
named_fits letters None = tt
named_fits letters (Some w) = tt

same_read : (t u : Token) (m n : ℕ) → (let r : Read = Ok (t, m) in r) ≡ Ok (u, n) → (t ≡ u) × (m ≡ n)
same_read t u m n e =
    let p : Token × ℕ = (t, m) in
    let q : Token × ℕ = (u, n) in
    let k : p ≡ q = cc in
    (ap (λ (z : Token × ℕ). z.0) k, ap (λ (z : Token × ℕ). z.1) k)

name_stands : (at b : ℕ) (bs : List ℕ) (t : Token) (end : ℕ) → begins_name b ≡ true → name_at at (b ∷ bs) ≡ Ok (t, end) → Stands at (b ∷ bs) t end
name_stands at b bs t end h e =
    let k = same_read (named (take_while is_in_name (b ∷ bs))) t (at + prefix_len is_in_name (b ∷ bs)) end e in
    let l = take_while is_in_name (b ∷ bs) in
    record {
      lexeme = l;
      rest = drop (prefix_len is_in_name (b ∷ bs)) (b ∷ bs);
      splits = run_splits is_in_name (b ∷ bs);
      spells = subst (λ z. Spells z l) k.0 (named_spells l (word_of l) refl (letters_run b bs h));
      fits = subst Fits k.0 (named_fits l (word_of l));
      longest = longest_from b bs l _ (run_splits is_in_name (b ∷ bs))
          (λ cs after q f. run_longest is_in_name (b ∷ bs) (b ∷ cs) after q (letters_all (b ∷ cs) (letters_alone b cs h f)));
      ends = sym k.1 ∙ ap (λ (n : ℕ). at + n) (sym (run_length is_in_name (b ∷ bs)));
      some = run_some is_in_name b bs (in_name b h);
    }

fitting_at : (digits : List ℕ) (n : ℕ) (b : Bool) → nat_lt (digits_value 10 digits) (2 ^ 63) ≡ b → (if b then Some (digits_value 10 digits) else None) ≡ Some n → (digits_value 10 digits ≡ n) × (digits_value 10 digits < 2 ^ 63)
fitting_at digits n true e h = let q : digits_value 10 digits ≡ n = cc in (q, ltb-true _ _ e)
fitting_at digits n false e h = absurd (cc)

number_is : (at end : ℕ) (o : Option ℕ) (digits : List ℕ) (t : Token) (stop : ℕ) → number_of digits ≡ o → numbered at end o ≡ Ok (t, stop)
    → (Number (pos (digits_value 10 digits)) ≡ t) × ((digits_value 10 digits < 2 ^ 63) × (end ≡ stop))
number_is at end None digits t stop e h = absurd (cc)
number_is at end (Some n) digits t stop e h =
    let f = fitting_at digits n (nat_lt (digits_value 10 digits) (2 ^ 63)) refl e in
    let k = same_read (Number (pos n)) t end stop h in
    (ap (λ (m : ℕ). Number (pos m)) f.0 ∙ k.0, (f.1, k.1))

number_stands : (at b : ℕ) (bs : List ℕ) (t : Token) (end : ℕ) → is_ascii_digit b ≡ true → number_at at (b ∷ bs) ≡ Ok (t, end) → Stands at (b ∷ bs) t end
number_stands at b bs t end h e =
    let l = take_while is_ascii_digit (b ∷ bs) in
    let k = number_is at (at + prefix_len is_ascii_digit (b ∷ bs)) (number_of l) l t end refl e in
    let numeral : is_numeral l ≡ true = ap is_numeral (run_first is_ascii_digit b bs h) ∙ and_from (is_ascii_digit b) (list_all is_ascii_digit (take_while is_ascii_digit bs)) h (run_passes is_ascii_digit bs) in
    record {
      lexeme = l;
      rest = drop (prefix_len is_ascii_digit (b ∷ bs)) (b ∷ bs);
      splits = run_splits is_ascii_digit (b ∷ bs);
      spells = subst (λ z. Spells z l) k.0 (numeral, refl);
      fits = subst Fits k.0 (digits_value 10 l, (refl, k.1.0));
      longest = longest_from b bs l _ (run_splits is_ascii_digit (b ∷ bs)) (λ cs after q f. run_longest is_ascii_digit (b ∷ bs) (b ∷ cs) after q (numeral_alone b cs h f));
      ends = sym k.1.1 ∙ ap (λ (n : ℕ). at + n) (sym (run_length is_ascii_digit (b ∷ bs)));
      some = run_some is_ascii_digit b bs h;
    }

-- ---- texts
abbrev as_quoted : ℕ → List ℕ → Read
as_quoted end text = Ok (Quoted text, end + 1)

text_is : (end : ℕ) (r : Result (List ℕ) LexError) (t : Token) (stop : ℕ) → (r >>= as_quoted end) ≡ Ok (t, stop) → (text : List ℕ) × ((r ≡ Ok text) × ((Quoted text ≡ t) × (end + 1 ≡ stop)))
text_is end (Ok text) t stop h = let k = same_read (Quoted text) t (end + 1) stop h in (text, (refl, (k.0, k.1)))
text_is end (Err e) t stop h = absurd (cc)

-- a content and its closing quote, before a rest
content_longest : (ps qs : List (List ℕ × ℕ)) (inside rest longer after : List ℕ) → AllByRecursion IsPiece ps → inside ≡ written ps → AllByRecursion IsPiece qs
    → longer ≡ 34 ∷ (written qs ++ 34 ∷ []) → (34 ∷ (inside ++ 34 ∷ [])) ++ rest ≡ longer ++ after → length longer ≤ length (34 ∷ (inside ++ 34 ∷ []))
content_longest ps qs inside rest longer after a i b l e =
    let f : 34 ∷ (written ps ++ 34 ∷ rest) ≡ 34 ∷ (written qs ++ 34 ∷ after)
    = ap (λ z. 34 ∷ z) (ap (λ z. z ++ 34 ∷ rest) (sym i) ∙ sym (append_assoc inside (34 ∷ []) rest)) ∙ e ∙ ap (λ z. z ++ after) l ∙ ap (λ z. 34 ∷ z) (append_assoc (written qs) (34 ∷ []) after) in
    let g : written ps ++ 34 ∷ rest ≡ written qs ++ 34 ∷ after = ap (drop 1) f in
    let n = content_same ps qs rest after a b g in
    let m : length longer ≡ suc (length (written qs) + 1) = ap length l ∙ ap (λ (z : ℕ). suc z) (length-append (written qs) (34 ∷ [])) in
    let o : length (34 ∷ (inside ++ 34 ∷ [])) ≡ suc (length (written ps) + 1) = ap (λ (z : ℕ). suc z) (length-append inside (34 ∷ []) ∙ ap (λ z. length z + 1) i) in
    omega (arith, m, o, n)

quoted_from : (inside text : List ℕ) → Pieces inside text → IsQuoted text (34 ∷ (inside ++ 34 ∷ []))
quoted_from inside text p = (p.0, (p.1.0, (p.1.1.0, ap (λ z. 34 ∷ (z ++ 34 ∷ [])) p.1.1.1)))

closing_behind : (at end : ℕ) (bs inside rest : List ℕ) → bs ≡ inside ++ 34 ∷ rest → closing at false bs ≡ Some end → end ≡ at + length inside → closing at false (inside ++ 34 ∷ rest) ≡ Some (at + length inside)
closing_behind at end bs inside rest e c n = ap (closing at false) (sym e) ∙ c ∙ ap (λ (m : ℕ). Some m) n

quoted_of : (at end stop : ℕ) (bs : List ℕ) (t : Token) → closing (at + 1) false bs ≡ Some end
    → (unescaped (at + 1) false (take (end - (at + 1)) bs) >>= as_quoted end) ≡ Ok (t, stop) → Stands at (34 ∷ bs) t stop
quoted_of at end stop bs t c h =
    let k = text_is end (unescaped (at + 1) false (take (end - (at + 1)) bs)) t stop h in
    let d = closing_splits bs (at + 1) false end c in
    let inside = take (end - (at + 1)) bs in
    let rest = drop (suc (end - (at + 1))) bs in
    let whole : length bs ≡ length inside + suc (length rest) = ap length d.1 ∙ length-append inside (34 ∷ rest) in
    let size : length inside ≡ end - (at + 1) = omega (arith, whole, length-take (end - (at + 1)) bs) in
    let n : end ≡ at + 1 + length inside = omega (arith, size, d.0) in
    let p : Pieces inside k.0 = pieces_of inside (at + 1) (at + 1) false rest k.0 (closing_behind (at + 1) end bs inside rest d.1 c n) k.1.0 in
    let l = 34 ∷ (inside ++ 34 ∷ []) in
    let splits : 34 ∷ bs ≡ l ++ rest = ap (λ z. 34 ∷ z) (d.1 ∙ sym (append_assoc inside (34 ∷ []) rest)) in
    let length_is : length l ≡ suc (length inside + 1) = ap (λ (z : ℕ). suc z) (length-append inside (34 ∷ [])) in
    record {
      lexeme = l;
      rest = rest;
      splits = splits;
      spells = subst (λ z. Spells z l) k.1.1.0 (quoted_from inside k.0 p);
      fits = subst Fits k.1.1.0 tt;
      longest = longest_from 34 bs l rest splits (λ cs after q f.
          let u = quoted_alone 34 cs refl f in
          content_longest p.0 u.1.0 inside rest (34 ∷ cs) after p.1.0 p.1.1.1 u.1.1.0 u.1.1.1.1 (sym splits ∙ q));
      ends = omega (arith, k.1.1.1, n, length_is);
      some = omega (arith, length_is);
    }

quoted_cases : (at stop : ℕ) (bs : List ℕ) (t : Token) (o : Option ℕ) → closing (at + 1) false bs ≡ o → quoted_to at bs o ≡ Ok (t, stop) → Stands at (34 ∷ bs) t stop
quoted_cases at stop bs t None c h = absurd (cc)
quoted_cases at stop bs t (Some end) c h = quoted_of at end stop bs t c h

quoted_stands : (at b : ℕ) (bs : List ℕ) (t : Token) (end : ℕ) → b ≡ 34 → quoted_at at (b ∷ bs) ≡ Ok (t, end) → Stands at (b ∷ bs) t end
quoted_stands at b bs t end h e = subst (λ (z : ℕ). Stands at (z ∷ bs) t end) (sym h) (quoted_cases at end bs t (closing (at + 1) false bs) refl e)

-- ---- signs
-- a sign that the bytes begin with stands in front of a rest
pub sign_splits : (bytes text : List ℕ) → starts_with nat_eq bytes text ≡ true → bytes ≡ text ++ drop (length text) bytes
sign_splits bytes text h =
    let e : text ≡ take (length text) bytes = (bytes_eq-Decides text (take (length text) bytes)).0 h in
    sym (take-append-drop (length text) bytes) ∙ ap (λ z. z ++ drop (length text) bytes) (sym e)

pub sign_begins : (text after : List ℕ) → starts_with nat_eq (text ++ after) text ≡ true
sign_begins text after = (bytes_eq-Decides text (take (length text) (text ++ after))).1 (sym (take_at text after (length text) refl))

sign_of : (at b : ℕ) (bs : List ℕ) (t : Token) (end : ℕ) (o : Option ASymbol) → begins_name b ≡ false → is_ascii_digit b ≡ false → (b == 34) ≡ false → symbol_of (b ∷ bs) ≡ o → signed at o ≡ Ok (t, end) → Stands at (b ∷ bs) t end
sign_of at b bs t end None h k l e i = absurd (cc)
sign_of at b bs t end (Some s) h k l e i =
    let r = same_read (Symbol s) t (at + length (symbol_text s)) end i in
    let splits = sign_splits (b ∷ bs) (symbol_text s) (sign_stands (b ∷ bs) s e) in
    record {
      lexeme = symbol_text s;
      rest = drop (length (symbol_text s)) (b ∷ bs);
      splits = splits;
      spells = subst (λ z. Spells z (symbol_text s)) r.0 refl;
      fits = subst Fits r.0 tt;
      longest = longest_from b bs (symbol_text s) _ splits (λ cs after q f.
          let u = sign_alone b cs h k l f in
          let m : starts_with nat_eq (b ∷ bs) (symbol_text u.0) ≡ true = subst (λ z. starts_with nat_eq z (symbol_text u.0) ≡ true) (ap (λ z. z ++ after) (sym u.1) ∙ sym q) (sign_begins (symbol_text u.0) after) in
          subst (λ z. length z ≤ length (symbol_text s)) (sym u.1) (longest_sign (b ∷ bs) s u.0 e m));
      ends = sym r.1;
      some = (symbol_some s);
    }

sign_stands_at : (at b : ℕ) (bs : List ℕ) (t : Token) (end : ℕ) → begins_name b ≡ false → is_ascii_digit b ≡ false → (b == 34) ≡ false → sign_at at (b ∷ bs) ≡ Ok (t, end) → Stands at (b ∷ bs) t end
sign_stands_at at b bs t end h k l e = sign_of at b bs t end (symbol_of (b ∷ bs)) h k l refl e

-- ---- by the first byte
stands_by : (at b : ℕ) (bs : List ℕ) (t : Token) (end : ℕ) (x y z : Bool) → begins_name b ≡ x → is_ascii_digit b ≡ y → (b == 34) ≡ z
    → (if x then name_at at (b ∷ bs) else (if y then number_at at (b ∷ bs) else (if z then quoted_at at (b ∷ bs) else sign_at at (b ∷ bs)))) ≡ Ok (t, end) → Stands at (b ∷ bs) t end
stands_by at b bs t end true y z e f g h = name_stands at b bs t end e h
stands_by at b bs t end false true z e f g h = number_stands at b bs t end f h
stands_by at b bs t end false false true e f g h = quoted_stands at b bs t end (eqb-true b 34 g) h
stands_by at b bs t end false false false e f g h = sign_stands_at at b bs t end e f g h

pub token_stands : (at b : ℕ) (bs : List ℕ) (t : Token) (end : ℕ) → token_at at (b ∷ bs) ≡ Ok (t, end) → Stands at (b ∷ bs) t end
unfolding token_at
token_stands at b bs t end h = stands_by at b bs t end (begins_name b) (is_ascii_digit b) (b == 34) refl refl refl h
