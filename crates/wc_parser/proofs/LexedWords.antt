-- The tokens of a printed text one by one: separators, names, words and signs.
use Rattle.std.proofs.Common.{◌≡◌, ℕ, zero, suc, ◌+◌, ◌-◌, List, [], ◌∷◌, ◌++◌, length, take, Bool, true, false, Option, Some, None, Result, Ok, refl, sym, ap, ◌∙◌, arith, if◌then◌else◌}
use Rattle.std.specs.Prelude.{◌==◌, ◌&&◌, cond, codes}
use Rattle.std.specs.Char.{is_ascii_digit}
use Rattle.std.specs.List.{prefix_len, take_while, list_all}
use Rattle.std.proofs.lemmas.Bool.{and_parts, or_parts}
use Rattle.std.proofs.lemmas.Bool.Decides.{nat_tests}
use Rattle.std.proofs.lemmas.List.{take_at, drop_at}
use Rattle.wc_lexer.specs.declared.token.Token.{Token}
use Rattle.wc_lexer.specs.declared.token.Token.TheVariants as token
use Rattle.wc_lexer.specs.declared.token.Word.{Word}
use Rattle.wc_lexer.specs.declared.token.Symbol.{Symbol}
use Rattle.wc_lexer.specs.declared.token.Symbol.TheVariants as symbol
use Rattle.wc_lexer.specs.declared.error.LexError.{LexError}
use Rattle.wc_lexer.specs.Spellings.{word_text, symbol_text, word_of, symbol_of}
use Rattle.wc_lexer.specs.Tokens.{◌>>=◌, joined, is_separator, begins_name, is_in_name, is_in_line, Read, named, named_as}
use Rattle.wc_lexer.specs.Tokens.{signed, name_at, number_at, quoted_at, sign_at, token_at, as_some, piece_at, kept_at, tokens_from}
use Rattle.wc_lexer.specs.Cuts.{is_letters}
use Rattle.wc_lexer.proofs.Places.{skip, sign_begun}
use Rattle.wc_lexer.proofs.Longest.{letters_first, letters_all, sign_first}
use Rattle.wc_lexer.proofs.Signs.{word_letters, word_found, is_mark, symbol_mark}
use Rattle.wc_lexer.proofs.Cutting.{joined_nil}
use Rattle.wc_syntax.specs.declared.expression.Name.{Name}
use Rattle.wc_syntax.specs.Writable.{is_free, is_name}
use Rattle.wc_parser.specs.PrintedTokens.{sign, reserved, name}
use Rattle.wc_parser.proofs.LexedPieces.{Placed, said, Reads, one_more}

-- ---- separators
-- what follows a piece that was read
abbrev go_on : ℕ → List ℕ → Option Token × ℕ → Result Placed LexError
go_on at behind p = joined (kept_at at p.0) (tokens_from (p.1 - (at + 1)) (at + 1) behind)

separator_passes : (at b : ℕ) (bs : List ℕ) → is_separator b ≡ true → tokens_from 0 at (b ∷ bs) ≡ tokens_from 0 (at + 1) bs
unfolding piece_at
separator_passes at b bs e =
    let z : at + 1 - (at + 1) ≡ zero = omega arith in
    ap (λ (x : Bool). (if x then Ok (None, at + 1) else (if b == 35 then Ok (None, at + prefix_len is_in_line (b ∷ bs)) else (token_at at (b ∷ bs) >>= as_some))) >>= go_on at bs) e
    ∙ joined_nil (tokens_from (at + 1 - (at + 1)) (at + 1) bs) ∙ ap (λ (m : ℕ). tokens_from m (at + 1) bs) z

pub separator : (b : ℕ) (rest : List ℕ) → is_separator b ≡ true → Reads (b ∷ []) [] rest
separator b rest e = record { reads = λ others c. record { cut = λ at. ap said (separator_passes at b rest e) ∙ c.cut (at + 1) } }

pub space : (rest : List ℕ) → Reads (codes " ") [] rest
space rest = separator 32 rest refl

pub line_end : (rest : List ℕ) → Reads (10 ∷ []) [] rest
line_end rest = separator 10 rest refl

-- spaces alone
pub spaces : (margin rest : List ℕ) → list_all (λ b. b == 32) margin ≡ true → Reads margin [] rest
spaces [] rest h = record { reads = λ others c. c }
spaces (b ∷ bs) rest h =
    let a = and_parts (b == 32) (list_all (λ b. b == 32) bs) h in
    let e : is_separator b ≡ true = grind (arith, nat_tests) in
    record { reads = λ others c. (separator b (bs ++ rest) e).reads others ((spaces bs rest a.1).reads others c) }

-- ---- a token
found : (at b : ℕ) (m rest : List ℕ) (t : Token) → is_separator b ≡ false → (b == 35) ≡ false → token_at at (b ∷ (m ++ rest)) ≡ Ok (t, at + suc (length m))
    → tokens_from 0 at (b ∷ (m ++ rest)) ≡ joined ((t, at) ∷ []) (tokens_from 0 (at + suc (length m)) rest)
unfolding piece_at
found at b m rest t s k e =
    let w = b ∷ (m ++ rest) in
    let n : at + suc (length m) - (at + 1) ≡ length m = omega arith in
    let o : at + 1 + length m ≡ at + suc (length m) = omega arith in
    ap (λ (x : Bool). (if x then Ok (None, at + 1) else (if b == 35 then Ok (None, at + prefix_len is_in_line w) else (token_at at w >>= as_some))) >>= go_on at (m ++ rest)) s
    ∙ ap (λ (x : Bool). (if x then Ok (None, at + prefix_len is_in_line w) else (token_at at w >>= as_some)) >>= go_on at (m ++ rest)) k
    ∙ ap (λ r. (r >>= as_some) >>= go_on at (m ++ rest)) e
    ∙ ap (joined ((t, at) ∷ [])) (ap (λ (z : ℕ). tokens_from z (at + 1) (m ++ rest)) n ∙ skip (length m) (at + 1) (m ++ rest)
    ∙ ap (tokens_from 0 (at + 1 + length m)) (drop_at m rest (length m) refl) ∙ ap (λ (z : ℕ). tokens_from 0 z rest) o)

pub token_reads : (t : Token) (b : ℕ) (m rest : List ℕ) → is_separator b ≡ false → (b == 35) ≡ false
    → ((at : ℕ) → token_at at (b ∷ (m ++ rest)) ≡ Ok (t, at + suc (length m))) → Reads (b ∷ m) (t ∷ []) rest
token_reads t b m rest s k e = record {
  reads = λ others c. record {
    cut = λ at.
        ap said (found at b m rest t s k (e at)) ∙ one_more t at (tokens_from 0 (at + suc (length m)) rest) others (c.cut (at + suc (length m)));
  };
}

-- ---- runs
-- whether the first byte passes
abbrev pub begins : (ℕ → Bool) → List ℕ → Bool
begins p [] = false
begins p (b ∷ bs) = p b

pub run_stops : (p : ℕ → Bool) (xs rest : List ℕ) → list_all p xs ≡ true → begins p rest ≡ false → prefix_len p (xs ++ rest) ≡ length xs
run_stops p [] [] h k = refl
run_stops p [] (x ∷ rest) h k = ap (λ (b : Bool). cond b (1 + prefix_len p rest) 0) k
run_stops p (x ∷ xs) rest h k =
    let a = and_parts (p x) (list_all p xs) h in
    let q : 1 + length xs ≡ suc (length xs) = omega arith in
    ap (λ (b : Bool). cond b (1 + prefix_len p (xs ++ rest)) 0) a.0 ∙ ap (λ (n : ℕ). 1 + n) (run_stops p xs rest a.1 k) ∙ q

pub no_digit : (rest : List ℕ) → begins is_in_name rest ≡ false → begins is_ascii_digit rest ≡ false
no_digit [] h = refl
no_digit (b ∷ bs) h = (or_parts (begins_name b) (is_ascii_digit b) h).1

pub same_read : (t u : Token) (m n : ℕ) → t ≡ u → m ≡ n → (let r : Read = Ok (t, m) in r) ≡ Ok (u, n)
same_read t u m n e f = λ i. Ok (e i, f i)

-- ---- names and reserved words
letter_apart : (b : ℕ) → begins_name b ≡ true → (is_separator b ≡ false) × ((b == 35) ≡ false)
letter_apart b h = (grind (arith, nat_tests), grind (arith, nat_tests))

letters_at : (at b : ℕ) (l rest : List ℕ) (t : Token) → is_letters (b ∷ l) ≡ true → begins is_in_name rest ≡ false → named (b ∷ l) ≡ t → token_at at (b ∷ (l ++ rest)) ≡ Ok (t, at + suc (length l))
unfolding token_at
letters_at at b l rest t h k e =
    let bs = b ∷ (l ++ rest) in
    let n : prefix_len is_in_name bs ≡ suc (length l) = run_stops is_in_name (b ∷ l) rest (letters_all (b ∷ l) h) k in
    let w : take_while is_in_name bs ≡ b ∷ l = ap (λ (m : ℕ). take m bs) n ∙ take_at (b ∷ l) rest (length (b ∷ l)) refl in
    ap (λ (x : Bool). if x then name_at at bs else (if is_ascii_digit b then number_at at bs else (if b == 34 then quoted_at at bs else sign_at at bs))) (letters_first b l h)
    ∙ same_read (named (take_while is_in_name bs)) t (at + prefix_len is_in_name bs) (at + suc (length l)) (ap named w ∙ e) (ap (λ (m : ℕ). at + m) n)

letters_read : (text rest : List ℕ) (t : Token) → is_letters text ≡ true → begins is_in_name rest ≡ false → named text ≡ t → Reads text (t ∷ []) rest
letters_read [] rest t h k e = absurd (cc)
letters_read (b ∷ l) rest t h k e =
    let a = letter_apart b (letters_first b l h) in
    token_reads t b l rest a.0 a.1 (λ at. letters_at at b l rest t h k e)

pub word_reads : (w : Word) (rest : List ℕ) → begins is_in_name rest ≡ false → Reads (word_text w) (reserved w) rest
word_reads w rest k = letters_read (word_text w) rest (token.Word w) (word_letters w) k (ap (named_as (word_text w)) (word_found w))

free_name : (o : Option Word) (text : List ℕ) → is_free o ≡ true → named_as text o ≡ token.Name text
free_name None text h = refl
free_name (Some w) text h = absurd (cc)

pub name_reads : (n : Name) (rest : List ℕ) → is_name n ≡ true → begins is_in_name rest ≡ false → Reads n.text (name n) rest
name_reads n rest h k =
    let a = and_parts (is_letters n.text) (is_free (word_of n.text)) h in
    letters_read n.text rest (token.Name n.text) a.0 k (free_name (word_of n.text) n.text a.1)

-- ---- signs
sign_found_at : (at : ℕ) (s : Symbol) (b : ℕ) (l rest : List ℕ) → b ∷ l ≡ symbol_text s → symbol_of (b ∷ (l ++ rest)) ≡ Some s → token_at at (b ∷ (l ++ rest)) ≡ Ok (token.Symbol s, at + suc (length l))
unfolding token_at
sign_found_at at s b l rest e f =
    let k = sign_first s b l e in
    sign_begun at b (b ∷ (l ++ rest)) k.0 k.1.0 k.1.1 ∙ ap (signed at) f ∙ same_read (token.Symbol s) (token.Symbol s) (at + length (symbol_text s)) (at + suc (length l)) refl (ap (λ z. at + length z) (sym e))

mark_apart : (b : ℕ) (l : List ℕ) (s : Symbol) → b ∷ l ≡ symbol_text s → (is_separator b ≡ false) × ((b == 35) ≡ false)
mark_apart b l s e =
    let h : is_mark (b ∷ l) ≡ true = ap is_mark e ∙ symbol_mark s in
    (grind (arith, nat_tests), grind (arith, nat_tests))

sign_stands_at : (s : Symbol) (text rest : List ℕ) → text ≡ symbol_text s → symbol_of (text ++ rest) ≡ Some s → Reads text (sign s) rest
sign_stands_at s [] rest e f = absurd (let k : is_mark [] ≡ true = ap is_mark e ∙ symbol_mark s in (cc))
sign_stands_at s (b ∷ l) rest e f =
    let a = mark_apart b l s e in
    token_reads (token.Symbol s) b l rest a.0 a.1 (λ at. sign_found_at at s b l rest e f)

-- signs that nothing runs on
abbrev pub stands_alone : Symbol → Bool
stands_alone symbol.Is = false
stands_alone symbol.Less = false
stands_alone symbol.Greater = false
stands_alone symbol.Minus = false
stands_alone _ = true

alone_found : (s : Symbol) (rest : List ℕ) → stands_alone s ≡ true → symbol_of (symbol_text s ++ rest) ≡ Some s
unfolding symbol_of
alone_found symbol.OpenBrace rest h = refl
alone_found symbol.CloseBrace rest h = refl
alone_found symbol.Open rest h = refl
alone_found symbol.Close rest h = refl
alone_found symbol.OpenSquare rest h = refl
alone_found symbol.CloseSquare rest h = refl
alone_found symbol.Comma rest h = refl
alone_found symbol.Semi rest h = refl
alone_found symbol.Colon rest h = refl
alone_found symbol.Dot rest h = refl
alone_found symbol.Question rest h = refl
alone_found symbol.Is rest h = absurd (cc)
alone_found symbol.Equal rest h = refl
alone_found symbol.Differs rest h = refl
alone_found symbol.Less rest h = absurd (cc)
alone_found symbol.AtMost rest h = refl
alone_found symbol.Greater rest h = absurd (cc)
alone_found symbol.AtLeast rest h = refl
alone_found symbol.Plus rest h = refl
alone_found symbol.Minus rest h = absurd (cc)
alone_found symbol.Star rest h = refl
alone_found symbol.Slash rest h = refl
alone_found symbol.Percent rest h = refl
alone_found symbol.Arrow rest h = refl

pub sign_reads : (s : Symbol) (rest : List ℕ) → stands_alone s ≡ true → Reads (symbol_text s) (sign s) rest
sign_reads s rest h = sign_stands_at s (symbol_text s) rest refl (alone_found s rest h)

spaced_found : (s : Symbol) (rest : List ℕ) → symbol_of (symbol_text s ++ 32 ∷ rest) ≡ Some s
unfolding symbol_of
spaced_found symbol.OpenBrace rest = refl
spaced_found symbol.CloseBrace rest = refl
spaced_found symbol.Open rest = refl
spaced_found symbol.Close rest = refl
spaced_found symbol.OpenSquare rest = refl
spaced_found symbol.CloseSquare rest = refl
spaced_found symbol.Comma rest = refl
spaced_found symbol.Semi rest = refl
spaced_found symbol.Colon rest = refl
spaced_found symbol.Dot rest = refl
spaced_found symbol.Question rest = refl
spaced_found symbol.Is rest = refl
spaced_found symbol.Equal rest = refl
spaced_found symbol.Differs rest = refl
spaced_found symbol.Less rest = refl
spaced_found symbol.AtMost rest = refl
spaced_found symbol.Greater rest = refl
spaced_found symbol.AtLeast rest = refl
spaced_found symbol.Plus rest = refl
spaced_found symbol.Minus rest = refl
spaced_found symbol.Star rest = refl
spaced_found symbol.Slash rest = refl
spaced_found symbol.Percent rest = refl
spaced_found symbol.Arrow rest = refl

-- before a space each sign stands alone
pub spaced_sign : (s : Symbol) (rest : List ℕ) → Reads (symbol_text s) (sign s) (32 ∷ rest)
spaced_sign s rest = sign_stands_at s (symbol_text s) (32 ∷ rest) refl (spaced_found s rest)

-- whether a `>` stands first
abbrev pub is_pointed : List ℕ → Bool
is_pointed bs = begins (λ b. 62 == b) bs

minus_found : (rest : List ℕ) → is_pointed rest ≡ false → symbol_of (45 ∷ rest) ≡ Some symbol.Minus
unfolding symbol_of
minus_found [] h = refl
minus_found (b ∷ bs) h = ap (λ (x : Bool). cond (x && true) (Some symbol.Arrow) (Some symbol.Minus)) h

-- the minus of a negation, which no `>` follows
pub minus_reads : (rest : List ℕ) → is_pointed rest ≡ false → Reads (codes "-") (sign symbol.Minus) rest
minus_reads rest h = sign_stands_at symbol.Minus (codes "-") rest refl (minus_found rest h)
