-- Tokens that are a text's in the grammar's words are read from it.
use Rattle.std.proofs.Common.{◌≡◌, ℕ, zero, suc, ◌+◌, ◌-◌, ◌<◌, ◌≤◌, ◌^◌, List, [], ◌∷◌, ◌++◌, length, take, drop, Bool, true, false, Option, Some, None, Result, Ok, Err, refl, sym, ap, ◌∙◌, subst, arith, append_assoc, if◌then◌else◌, length-append, map, pos, ◌⊎◌, inl, inr}
use Rattle.std.specs.Prelude.{◌==◌, ◌&&◌, not, nat_lt, nat_eq, cond, IsSome, IfOk}
use Rattle.std.specs.List.{prefix_len, take_while, list_all, starts_with, AllByRecursion}
use Rattle.std.specs.Char.{is_ascii_digit}
use Rattle.std.specs.Str.{bytes_eq}
use Rattle.std.specs.Str.Parse.{digits_value}
use Rattle.std.proofs.lemmas.Bool.{eqb-true, and_parts, and_from, or_left, lt-ltb, not-true}
use Rattle.std.proofs.lemmas.Bool.Decides.{nat_tests}
use Rattle.std.proofs.lemmas.List.{take_at, drop_at, append-nil}
use Rattle.std.proofs.lemmas.Slice.Eq.{bytes_eq-Decides}
use Rattle.wc_lexer.specs.declared.token.Token.{Token}
use Rattle.wc_lexer.specs.declared.token.Token.TheVariants.{Name, Number, Quoted, Word, Symbol}
use Rattle.wc_lexer.specs.declared.token.Word.{Word as AWord}
use Rattle.wc_lexer.specs.declared.token.Symbol.{Symbol as ASymbol}
use Rattle.wc_lexer.specs.declared.error.LexError.{LexError}
use Rattle.wc_lexer.specs.Spellings.{word_text, symbol_text, word_of, symbol_of}
use Rattle.wc_lexer.specs.Tokens.{Gives, ◌>>=◌, joined, is_separator, begins_name, is_in_name, is_in_line, escaped, closing, unescaped, unescaped_as, Read, named_as, named, number_of, numbered, quoted_to, signed, name_at, number_at, quoted_at, sign_at, begun_at, token_at, as_some, piece_at, kept_at, tokens_from, tokens_of}
use Rattle.wc_lexer.specs.Cuts.{comment_after, is_letters, is_numeral, IsPiece, written, IsQuoted, Spells, IsLongest, Fits, IsNext, AreTokens}
use Rattle.wc_lexer.proofs.Places.{skip}
use Rattle.wc_lexer.proofs.Signs.{word_letters, word_found, symbol_found, symbol_sign, is_sign, longest_sign, sign_stands, sign_is_found, is_mark, symbol_mark}
use Rattle.wc_lexer.proofs.Longest.{First, first_is, no_first, quote_first, letters_all, letters_first, numeral_first, sign_first, letter_no_digit, named_spells, sign_splits, sign_begins}
use Rattle.wc_lexer.proofs.Cutting.{Toks, joined_nil}

-- ---- separators and comments
-- behind a byte that is passed alone
pass_one : (at b : ℕ) (bs : List ℕ) → is_separator b ≡ true → tokens_from 0 at (b ∷ bs) ≡ tokens_from 0 (at + 1) bs
unfolding piece_at
pass_one at b bs e =
    let z : at + 1 - (at + 1) ≡ zero = omega arith in
    ap (λ (x : Bool). (if x then Ok (None, at + 1) else (if b == 35 then Ok (None, at + prefix_len is_in_line (b ∷ bs)) else (token_at at (b ∷ bs) >>= as_some))) >>= (λ p. joined (kept_at at p.0) (tokens_from (p.1 - (at + 1)) (at + 1) bs))) e
    ∙ joined_nil (tokens_from (at + 1 - (at + 1)) (at + 1) bs) ∙ ap (λ (m : ℕ). tokens_from m (at + 1) bs) z

-- behind the sign of a comment stands the rest of its line
pass_sign : (at : ℕ) (bs : List ℕ) → tokens_from 0 at (35 ∷ bs) ≡ tokens_from (prefix_len is_in_line bs) (at + 1) bs
unfolding piece_at
pass_sign at bs =
    let m = prefix_len is_in_line bs in
    let z : at + (1 + m) - (at + 1) ≡ m = omega arith in
    joined_nil (tokens_from (at + (1 + m) - (at + 1)) (at + 1) bs) ∙ ap (λ (n : ℕ). tokens_from n (at + 1) bs) z

-- what is read where a comment is open or not
abbrev from_state : Bool → ℕ → List ℕ → Result Toks LexError
from_state false at bs = tokens_from 0 at bs
from_state true at bs = tokens_from (prefix_len is_in_line bs) at bs

step_in : (at b : ℕ) (bs : List ℕ) (x : Bool) → (b == 10) ≡ x → from_state true at (b ∷ bs) ≡ from_state (not x) (at + 1) bs
step_in at b bs true e =
    ap (λ (z : Bool). tokens_from (cond (not z) (1 + prefix_len is_in_line bs) 0) at (b ∷ bs)) e ∙ pass_one at b bs (subst (λ (z : ℕ). is_separator z ≡ true) (sym (eqb-true b 10 e)) refl)
step_in at b bs false e =
    let q : 1 + prefix_len is_in_line bs ≡ suc (prefix_len is_in_line bs) = omega arith in
    ap (λ (z : Bool). tokens_from (cond (not z) (1 + prefix_len is_in_line bs) 0) at (b ∷ bs)) e ∙ ap (λ (m : ℕ). tokens_from m at (b ∷ bs)) q

-- a byte between tokens, and whether a comment is open behind it
abbrev byte_after : Bool → ℕ → Option Bool
byte_after true b = Some (not (b == 10))
byte_after false b = if is_separator b then Some false else (if b == 35 then Some true else None)

step_out : (at b : ℕ) (bs : List ℕ) (x y f : Bool) → is_separator b ≡ x → (b == 35) ≡ y → (if x then Some false else (if y then Some true else None)) ≡ Some f → tokens_from 0 at (b ∷ bs) ≡ from_state f (at + 1) bs
step_out at b bs true y f e k h = let q : false ≡ f = cc in pass_one at b bs e ∙ ap (λ (z : Bool). from_state z (at + 1) bs) q
step_out at b bs false true f e k h =
    let q : true ≡ f = cc in
    ap (λ (z : ℕ). tokens_from 0 at (z ∷ bs)) (eqb-true b 35 k) ∙ pass_sign at bs ∙ ap (λ (z : Bool). from_state z (at + 1) bs) q
step_out at b bs false false f e k h = absurd (cc)

step : (at b : ℕ) (bs : List ℕ) (e f : Bool) → byte_after e b ≡ Some f → from_state e at (b ∷ bs) ≡ from_state f (at + 1) bs
step at b bs true f h = let q : not (b == 10) ≡ f = cc in step_in at b bs (b == 10) refl ∙ ap (λ (z : Bool). from_state z (at + 1) bs) q
step at b bs false f h = step_out at b bs (is_separator b) (b == 35) f refl refl h

after_byte : (b : ℕ) (bs : List ℕ) (e f : Bool) → comment_after e (b ∷ bs) ≡ Some f → (g : Bool) × ((byte_after e b ≡ Some g) × (comment_after g bs ≡ Some f))
after_byte b bs true f h = (not (b == 10), (refl, h))
after_byte b bs false f h = after_at (is_separator b) (b == 35) h
  where
    after_at : (x y : Bool) → (if x then comment_after false bs else (if y then comment_after true bs else None)) ≡ Some f
        → (g : Bool) × (((if x then Some false else (if y then Some true else None)) ≡ Some g) × (comment_after g bs ≡ Some f))
    after_at true y k = (false, (refl, k))
    after_at false true k = (true, (refl, k))
    after_at false false k = absurd (cc)

pass : (gap bs : List ℕ) (at : ℕ) (e f : Bool) → comment_after e gap ≡ Some f → from_state e at (gap ++ bs) ≡ from_state f (at + length gap) bs
pass [] bs at e f h =
    let q : e ≡ f = cc in
    let n : at ≡ at + 0 = omega arith in
    ap (λ (z : Bool). from_state z at bs) q ∙ ap (λ (m : ℕ). from_state f m bs) n
pass (b ∷ gap) bs at e f h =
    let k = after_byte b gap e f h in
    let n : at + 1 + length gap ≡ at + suc (length gap) = omega arith in
    step at b (gap ++ bs) e k.0 k.1.0 ∙ pass gap bs (at + 1) k.0 f k.1.1 ∙ ap (λ (m : ℕ). from_state f m bs) n

ends_empty : (at : ℕ) (e : Bool) → from_state e at [] ≡ Ok []
ends_empty at true = refl
ends_empty at false = refl

some_is : (o : Option Bool) → IsSome o → (f : Bool) × (o ≡ Some f)
some_is (Some f) h = (f, refl)
some_is None h = absurd (cc)

-- separators and comments alone are no tokens
no_tokens : (at : ℕ) (bs : List ℕ) → IsSome (comment_after false bs) → tokens_from 0 at bs ≡ Ok []
no_tokens at bs h =
    let k = some_is (comment_after false bs) h in
    ap (tokens_from 0 at) (sym (append-nil bs)) ∙ pass bs [] at false k.0 k.1 ∙ ends_empty (at + length bs) k.0

-- ---- runs
run_ends : (p : ℕ → Bool) (xs rest : List ℕ) → list_all p xs ≡ true → ((x : ℕ) (after : List ℕ) → rest ≡ x ∷ after → p x ≡ true → ⊥) → prefix_len p (xs ++ rest) ≡ length xs
run_ends p [] [] h k = refl
run_ends p [] (x ∷ rest) h k = stop (p x) refl
  where
    stop : (b : Bool) → p x ≡ b → cond b (1 + prefix_len p rest) 0 ≡ 0
    stop true e = absurd (k x rest refl e)
    stop false e = refl
run_ends p (x ∷ xs) rest h k =
    let a = and_parts (p x) (list_all p xs) h in
    let q : 1 + length xs ≡ suc (length xs) = omega arith in
    ap (λ (b : Bool). cond b (1 + prefix_len p (xs ++ rest)) 0) a.0 ∙ ap (λ (n : ℕ). 1 + n) (run_ends p xs rest a.1 k) ∙ q

all_push : (p : ℕ → Bool) (xs : List ℕ) (x : ℕ) → list_all p xs ≡ true → p x ≡ true → list_all p (xs ++ x ∷ []) ≡ true
all_push p [] x h k = and_from (p x) true k refl
all_push p (y ∷ xs) x h k = let a = and_parts (p y) (list_all p xs) h in and_from (p y) (list_all p (xs ++ x ∷ [])) a.0 (all_push p xs x a.1 k)

-- a longer spelling there is none
longer_none : (lexeme rest : List ℕ) (x : ℕ) (after : List ℕ) (t : Token) → IsLongest lexeme rest → rest ≡ x ∷ after → Spells t (lexeme ++ x ∷ []) → ⊥
longer_none lexeme rest x after t l e s =
    let k = l t (lexeme ++ x ∷ []) after (ap (λ z. lexeme ++ z) e ∙ sym (append_assoc lexeme (x ∷ []) after)) s in
    absurd (omega (arith, k, length-append lexeme (x ∷ [])))

letters_end : (b : ℕ) (l rest : List ℕ) → is_letters (b ∷ l) ≡ true → IsLongest (b ∷ l) rest → prefix_len is_in_name ((b ∷ l) ++ rest) ≡ length (b ∷ l)
letters_end b l rest h k = run_ends is_in_name (b ∷ l) rest (letters_all (b ∷ l) h) (λ x after e p.
    let a = and_parts (begins_name b) (list_all is_in_name l) h in
    let longer : is_letters ((b ∷ l) ++ x ∷ []) ≡ true = and_from (begins_name b) (list_all is_in_name (l ++ x ∷ [])) a.0 (all_push is_in_name l x a.1 p) in
    longer_none (b ∷ l) rest x after (named ((b ∷ l) ++ x ∷ [])) k e (named_spells ((b ∷ l) ++ x ∷ []) (word_of ((b ∷ l) ++ x ∷ [])) refl longer))

numeral_end : (b : ℕ) (l rest : List ℕ) → is_numeral (b ∷ l) ≡ true → IsLongest (b ∷ l) rest → prefix_len is_ascii_digit ((b ∷ l) ++ rest) ≡ length (b ∷ l)
numeral_end b l rest h k = run_ends is_ascii_digit (b ∷ l) rest h (λ x after e p.
    longer_none (b ∷ l) rest x after (Number (pos (digits_value 10 ((b ∷ l) ++ x ∷ [])))) k e (all_push is_ascii_digit (b ∷ l) x h p, refl))

-- ---- tokens
ok_read : (t u : Token) (m n : ℕ) → t ≡ u → m ≡ n → (let r : Read = Ok (t, m) in r) ≡ Ok (u, n)
ok_read t u m n e f = λ i. Ok (e i, f i)

letters_read : (at : ℕ) (lexeme rest : List ℕ) (t : Token) → is_letters lexeme ≡ true → IsLongest lexeme rest → named lexeme ≡ t → token_at at (lexeme ++ rest) ≡ Ok (t, at + length lexeme)
unfolding token_at
letters_read at [] rest t h k e = absurd (cc)
letters_read at (b ∷ l) rest t h k e =
    let n = letters_end b l rest h k in
    let bs = (b ∷ l) ++ rest in
    let w : take_while is_in_name bs ≡ b ∷ l = ap (λ (m : ℕ). take m bs) n ∙ take_at (b ∷ l) rest (length (b ∷ l)) refl in
    ap (λ (x : Bool). if x then name_at at bs else (if is_ascii_digit b then number_at at bs else (if b == 34 then quoted_at at bs else sign_at at bs))) (letters_first b l h)
    ∙ ok_read (named (take_while is_in_name bs)) t (at + prefix_len is_in_name bs) (at + length (b ∷ l)) (ap named w ∙ e) (ap (λ (m : ℕ). at + m) n)

name_no_digit : (b : ℕ) → is_ascii_digit b ≡ true → (x : Bool) → begins_name b ≡ x → x ≡ false
name_no_digit b h true e = absurd (letter_no_digit b e h)
name_no_digit b h false e = refl

number_read : (at : ℕ) (lexeme rest : List ℕ) → is_numeral lexeme ≡ true → IsLongest lexeme rest → digits_value 10 lexeme < 2 ^ 63 → token_at at (lexeme ++ rest) ≡ Ok (Number (pos (digits_value 10 lexeme)), at + length lexeme)
unfolding token_at
number_read at [] rest h k f = absurd (cc)
number_read at (b ∷ l) rest h k f =
    let n = numeral_end b l rest h k in
    let bs = (b ∷ l) ++ rest in
    let w : take_while is_ascii_digit bs ≡ b ∷ l = ap (λ (m : ℕ). take m bs) n ∙ take_at (b ∷ l) rest (length (b ∷ l)) refl in
    let digit = numeral_first b l h in
    let v : number_of (b ∷ l) ≡ Some (digits_value 10 (b ∷ l)) = ap (λ (x : Bool). if x then Some (digits_value 10 (b ∷ l)) else None) (lt-ltb _ _ f) in
    ap (λ (x : Bool). if x then name_at at bs else (if is_ascii_digit b then number_at at bs else (if b == 34 then quoted_at at bs else sign_at at bs))) (name_no_digit b digit (begins_name b) refl)
    ∙ ap (λ (x : Bool). if x then number_at at bs else (if b == 34 then quoted_at at bs else sign_at at bs)) digit
    ∙ ap (λ (m : ℕ). numbered at (at + m) (number_of (take_while is_ascii_digit bs))) n
    ∙ ap (λ z. numbered at (at + length (b ∷ l)) (number_of z)) w ∙ ap (numbered at (at + length (b ∷ l))) v

-- ---- texts
-- the closing quote of a content in pieces
plain_closing : (at b : ℕ) (bs : List ℕ) → (b == 34) ≡ false → (b == 92) ≡ false → (b == 10) ≡ false → closing at false (b ∷ bs) ≡ closing (at + 1) false bs
plain_closing at b bs h k l =
    ap (λ (x : Bool). if x then None else (if b == 34 then Some at else closing (at + 1) (b == 92) bs)) l
    ∙ ap (λ (x : Bool). if x then Some at else closing (at + 1) (b == 92) bs) h
    ∙ ap (λ (x : Bool). closing (at + 1) x bs) k

no_line : (c m : ℕ) (x : Bool) → (c == 10) ≡ x → escaped c ≡ Some m → x ≡ false
no_line c m true e h = let k : escaped 10 ≡ Some m = ap escaped (sym (eqb-true c 10 e)) ∙ h in absurd (cc)
no_line c m false e h = refl

escape_closing : (at c m : ℕ) (bs : List ℕ) → escaped c ≡ Some m → closing at false (92 ∷ c ∷ bs) ≡ closing (at + 1 + 1) false bs
escape_closing at c m bs h = ap (λ (x : Bool). if x then None else closing (at + 1 + 1) false bs) (no_line c m (c == 10) refl h)

closes : (ps : List (List ℕ × ℕ)) (at : ℕ) (rest : List ℕ) → AllByRecursion IsPiece ps → closing at false (written ps ++ 34 ∷ rest) ≡ Some (at + length (written ps))
closes [] at rest a = let n : at ≡ at + 0 = omega arith in ap (λ (m : ℕ). Some m) n
closes (p ∷ ps) at rest a = closes_at p a.0 (closes ps (at + length p.0) rest a.1)
  where
    closes_at : (p : List ℕ × ℕ) → IsPiece p → closing (at + length p.0) false (written ps ++ 34 ∷ rest) ≡ Some (at + length p.0 + length (written ps))
        → closing at false ((p.0 ++ written ps) ++ 34 ∷ rest) ≡ Some (at + length (p.0 ++ written ps))
    closes_at p (inl i) k =
        let q : closing (at + 1) false (written ps ++ 34 ∷ rest) ≡ Some (at + 1 + length (written ps)) = subst (λ z. closing (at + length z) false (written ps ++ 34 ∷ rest) ≡ Some (at + length z + length (written ps))) i.0 k in
        let n : at + 1 + length (written ps) ≡ at + suc (length (written ps)) = omega arith in
        subst (λ z. closing at false ((z ++ written ps) ++ 34 ∷ rest) ≡ Some (at + length (z ++ written ps))) (sym i.0)
        (plain_closing at p.1 (written ps ++ 34 ∷ rest) i.1 i.2 i.3 ∙ q ∙ ap (λ (m : ℕ). Some m) n)
    closes_at p (inr i) k =
        let q : closing (at + 2) false (written ps ++ 34 ∷ rest) ≡ Some (at + 2 + length (written ps)) = subst (λ z. closing (at + length z) false (written ps ++ 34 ∷ rest) ≡ Some (at + length z + length (written ps))) i.1.0 k in
        let m : at + 1 + 1 ≡ at + 2 = omega arith in
        let n : at + 2 + length (written ps) ≡ at + suc (suc (length (written ps))) = omega arith in
        subst (λ z. closing at false ((z ++ written ps) ++ 34 ∷ rest) ≡ Some (at + length (z ++ written ps))) (sym i.1.0)
        (escape_closing at i.0 p.1 (written ps ++ 34 ∷ rest) i.1.1 ∙ ap (λ (x : ℕ). closing x false (written ps ++ 34 ∷ rest)) m ∙ q ∙ ap (λ (x : ℕ). Some x) n)

unescapes : (ps : List (List ℕ × ℕ)) (at : ℕ) → AllByRecursion IsPiece ps → unescaped at false (written ps) ≡ Ok (map (λ p. p.1) ps)
unescapes [] at a = refl
unescapes (p ∷ ps) at a = unescapes_at p a.0
    (λ n. unescapes ps n a.1)
  where
    unescapes_at : (p : List ℕ × ℕ) → IsPiece p → ((n : ℕ) → unescaped n false (written ps) ≡ Ok (map (λ p. p.1) ps)) → unescaped at false (p.0 ++ written ps) ≡ Ok (p.1 ∷ map (λ p. p.1) ps)
    unescapes_at p (inl i) k =
        subst (λ z. unescaped at false (z ++ written ps) ≡ Ok (p.1 ∷ map (λ p. p.1) ps)) (sym i.0)
        (ap (λ (x : Bool). if x then unescaped (at + 1) true (written ps) else joined (p.1 ∷ []) (unescaped (at + 1) false (written ps))) i.2 ∙ ap (joined (p.1 ∷ [])) (k (at + 1)))
    unescapes_at p (inr i) k =
        subst (λ z. unescaped at false (z ++ written ps) ≡ Ok (p.1 ∷ map (λ p. p.1) ps)) (sym i.1.0)
        (ap (λ o. unescaped_as (at + 1) o (unescaped (at + 1 + 1) false (written ps))) i.1.1 ∙ ap (joined (p.1 ∷ [])) (k (at + 1 + 1)))

abbrev as_text : ℕ → List ℕ → Read
as_text end text = Ok (Quoted text, end + 1)

text_read : (at : ℕ) (ps : List (List ℕ × ℕ)) (rest : List ℕ) → AllByRecursion IsPiece ps
    → token_at at (34 ∷ (written ps ++ 34 ∷ rest)) ≡ Ok (Quoted (map (λ p. p.1) ps), at + 1 + length (written ps) + 1)
unfolding token_at
text_read at ps rest a =
    let end = at + 1 + length (written ps) in
    let n : end - (at + 1) ≡ length (written ps) = omega arith in
    let inside : take (end - (at + 1)) (written ps ++ 34 ∷ rest) ≡ written ps = ap (λ (m : ℕ). take m (written ps ++ 34 ∷ rest)) n ∙ take_at (written ps) (34 ∷ rest) (length (written ps)) refl in
    ap (quoted_to at (written ps ++ 34 ∷ rest)) (closes ps (at + 1) rest a)
    ∙ ap (λ z. unescaped (at + 1) false z >>= as_text end) inside
    ∙ ap (λ r. r >>= as_text end) (unescapes ps (at + 1) a)

quoted_read : (at : ℕ) (text lexeme rest : List ℕ) → IsQuoted text lexeme → token_at at (lexeme ++ rest) ≡ Ok (Quoted text, at + length lexeme)
quoted_read at text lexeme rest h =
    let w = written h.0 in
    let l : lexeme ≡ 34 ∷ (w ++ 34 ∷ []) = h.1.1.1 in
    let n : at + 1 + length w + 1 ≡ at + length (34 ∷ (w ++ 34 ∷ [])) = omega (arith, length-append w (34 ∷ [])) in
    subst (λ z. token_at at (z ++ rest) ≡ Ok (Quoted text, at + length z)) (sym l)
    (ap (λ z. token_at at (34 ∷ z)) (append_assoc w (34 ∷ []) rest) ∙ text_read at h.0 rest h.1.0 ∙ ok_read (Quoted (map (λ p. p.1) h.0)) (Quoted text) (at + 1 + length w + 1) (at + length (34 ∷ (w ++ 34 ∷ []))) (ap (λ z. Quoted z) (sym h.1.1.0)) n)

-- ---- signs
same_size : (bytes a b : List ℕ) → starts_with nat_eq bytes a ≡ true → starts_with nat_eq bytes b ≡ true → length a ≡ length b → a ≡ b
same_size bytes a b h k e =
    (bytes_eq-Decides a (take (length a) bytes)).0 h ∙ ap (λ (n : ℕ). take n bytes) e ∙ sym ((bytes_eq-Decides b (take (length b) bytes)).0 k)

sign_read_at : (bytes : List ℕ) (s : ASymbol) (rest : List ℕ) → bytes ≡ symbol_text s ++ rest → IsLongest (symbol_text s) rest → (o : Option ASymbol) → symbol_of bytes ≡ o → o ≡ Some s
sign_read_at bytes s rest e l None f = absurd (sign_is_found bytes s (subst (λ z. starts_with nat_eq z (symbol_text s) ≡ true) (sym e) (sign_begins (symbol_text s) rest)) f)
sign_read_at bytes s rest e l (Some u) f =
    let begins : starts_with nat_eq bytes (symbol_text s) ≡ true = subst (λ z. starts_with nat_eq z (symbol_text s) ≡ true) (sym e) (sign_begins (symbol_text s) rest) in
    let stands = sign_stands bytes u f in
    let up : length (symbol_text s) ≤ length (symbol_text u) = longest_sign bytes u s f begins in
    let down : length (symbol_text u) ≤ length (symbol_text s) = l (Symbol u) (symbol_text u) (drop (length (symbol_text u)) bytes) (sym e ∙ sign_splits bytes (symbol_text u) stands) refl in
    let same : length (symbol_text u) ≡ length (symbol_text s) = omega arith in
    sym (symbol_found u) ∙ ap symbol_of (same_size bytes (symbol_text u) (symbol_text s) stands begins same) ∙ symbol_found s

sign_at_first : (at : ℕ) (s : ASymbol) (text rest : List ℕ) → text ≡ symbol_text s → symbol_of (text ++ rest) ≡ Some s → token_at at (text ++ rest) ≡ Ok (Symbol s, at + length (symbol_text s))
unfolding token_at
sign_at_first at s [] rest e f = let k : is_sign [] ≡ true = ap is_sign e ∙ symbol_sign s in absurd (cc)
sign_at_first at s (b ∷ bs) rest e f =
    let k = sign_first s b bs e in
    let w = b ∷ (bs ++ rest) in
    ap (λ (x : Bool). if x then name_at at w else (if is_ascii_digit b then number_at at w else (if b == 34 then quoted_at at w else sign_at at w))) k.0
    ∙ ap (λ (x : Bool). if x then number_at at w else (if b == 34 then quoted_at at w else sign_at at w)) k.1.0
    ∙ ap (λ (x : Bool). if x then quoted_at at w else sign_at at w) k.1.1
    ∙ ap (signed at) f

sign_read : (at : ℕ) (s : ASymbol) (rest : List ℕ) → IsLongest (symbol_text s) rest → token_at at (symbol_text s ++ rest) ≡ Ok (Symbol s, at + length (symbol_text s))
sign_read at s rest l = sign_at_first at s (symbol_text s) rest refl (sign_read_at (symbol_text s ++ rest) s rest refl l (symbol_of (symbol_text s ++ rest)) refl)

-- ---- a token, and all of them
token_read : (at : ℕ) (t : Token) (lexeme rest : List ℕ) → Spells t lexeme → Fits t → IsLongest lexeme rest → token_at at (lexeme ++ rest) ≡ Ok (t, at + length lexeme)
token_read at (Name text) lexeme rest s f l = letters_read at lexeme rest (Name text) s.0 l (ap (named_as lexeme) s.1 ∙ ap (λ z. Name z) (sym s.2))
token_read at (Number n) lexeme rest s f l =
    let e : pos (digits_value 10 lexeme) ≡ pos f.0 = sym s.1 ∙ f.1.0 in
    let q : digits_value 10 lexeme ≡ f.0 = cc in
    number_read at lexeme rest s.0 l (let g : f.0 < 2 ^ 63 = f.1.1 in omega arith)
    ∙ ok_read (Number (pos (digits_value 10 lexeme))) (Number n) (at + length lexeme) (at + length lexeme) (ap (λ z. Number z) (sym s.1)) refl
token_read at (Quoted text) lexeme rest s f l = quoted_read at text lexeme rest s
token_read at (Word w) lexeme rest s f l = letters_read at lexeme rest (Word w) (ap is_letters s ∙ word_letters w) l (ap named s ∙ ap (named_as (word_text w)) (word_found w))
token_read at (Symbol s) lexeme rest h f l =
    subst (λ z. IsLongest z rest → token_at at (z ++ rest) ≡ Ok (Symbol s, at + length z)) (sym h) (sign_read at s rest) l

-- ---- a token begins no separator and no comment
name_apart : (b : ℕ) → begins_name b ≡ true → (is_separator b ≡ false) × ((b == 35) ≡ false)
name_apart b h = (grind (arith, nat_tests), grind (arith, nat_tests))

digit_apart : (b : ℕ) → is_ascii_digit b ≡ true → (is_separator b ≡ false) × ((b == 35) ≡ false)
digit_apart b h = (grind (arith, nat_tests), grind (arith, nat_tests))

mark_apart : (s : ASymbol) (b : ℕ) (l : List ℕ) → b ∷ l ≡ symbol_text s → (is_separator b ≡ false) × ((b == 35) ≡ false)
mark_apart s b l h =
    let k = and_parts (not (is_separator b)) (not (b == 35)) (ap is_mark h ∙ symbol_mark s) in
    (not-true (is_separator b) k.0, not-true (b == 35) k.1)

first_apart : (b : ℕ) (l : List ℕ) → First (b ∷ l) → (is_separator b ≡ false) × ((b == 35) ≡ false)
first_apart b l (inl h) = name_apart b (letters_first b l h)
first_apart b l (inr (inl h)) = digit_apart b (numeral_first b l h)
first_apart b l (inr (inr (inl h))) = subst (λ (z : ℕ). (is_separator z ≡ false) × ((z == 35) ≡ false)) (sym (quote_first h.0 b l h.1)) (refl, refl)
first_apart b l (inr (inr (inr h))) = mark_apart h.0 b l h.1

abbrev go_on : ℕ → List ℕ → Option Token × ℕ → Result Toks LexError
go_on at behind p = joined (kept_at at p.0) (tokens_from (p.1 - (at + 1)) (at + 1) behind)

read_token : (at : ℕ) (t : Token) (lexeme rest : List ℕ) → Spells t lexeme → Fits t → IsLongest lexeme rest
    → tokens_from 0 at (lexeme ++ rest) ≡ joined ((t, at) ∷ []) (tokens_from 0 (at + length lexeme) rest)
unfolding piece_at
read_token at t [] rest s f l = absurd (no_first (first_is t [] s))
read_token at t (b ∷ m) rest s f l =
    let k = first_apart b m (first_is t (b ∷ m) s) in
    let w = b ∷ (m ++ rest) in
    let n : at + suc (length m) - (at + 1) ≡ length m = omega arith in
    let o : at + 1 + length m ≡ at + suc (length m) = omega arith in
    ap (λ (x : Bool). (if x then Ok (None, at + 1) else (if b == 35 then Ok (None, at + prefix_len is_in_line w) else (token_at at w >>= as_some))) >>= go_on at (m ++ rest)) k.0
    ∙ ap (λ (x : Bool). (if x then Ok (None, at + prefix_len is_in_line w) else (token_at at w >>= as_some)) >>= go_on at (m ++ rest)) k.1
    ∙ ap (λ r. (r >>= as_some) >>= go_on at (m ++ rest)) (token_read at t (b ∷ m) rest s f l)
    ∙ ap (joined ((t, at) ∷ [])) (ap (λ (z : ℕ). tokens_from z (at + 1) (m ++ rest)) n ∙ skip (length m) (at + 1) (m ++ rest)
    ∙ ap (tokens_from 0 (at + 1 + length m)) (drop_at m rest (length m) refl) ∙ ap (λ (z : ℕ). tokens_from 0 z rest) o)

all_read : (ts : Toks) (at : ℕ) (bs : List ℕ) → AreTokens at bs ts → tokens_from 0 at bs ≡ Ok ts
all_read [] at bs h = no_tokens at bs h
all_read (t ∷ ts) at bs h =
    let n = h.2.0 in
    ap (tokens_from 0 at) n.splits
    ∙ pass n.gap (h.0 ++ h.1) at false false n.between
    ∙ ap (λ (m : ℕ). tokens_from 0 m (h.0 ++ h.1)) (sym n.here)
    ∙ read_token t.1 t.0 h.0 h.1 n.spells n.fits n.longest
    ∙ ap (joined (t ∷ [])) (all_read ts (t.1 + length h.0) h.1 h.2.1)

-- what a call answered
pub whole_of : (bytes : List ℕ) (r : Result Toks LexError) → Gives r (tokens_of bytes) → (ts : Toks) → AreTokens 0 bytes ts → Gives r (Ok ts)
whole_of bytes r h ts a = subst (Gives r) (all_read ts 0 bytes a) h
