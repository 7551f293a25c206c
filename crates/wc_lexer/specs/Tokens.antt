-- The tokens of a text: the longest one at each place, with separators and comments between them.
use Rattle.std.specs.Prelude.{ℕ, zero, suc, ◌+◌, ◌-◌, ◌^◌, ◌==◌, ◌≡◌, ◌&&◌, ◌||◌, not, nat_lt, Bool, true, false, if◌then◌else◌, pos, List, [], ◌∷◌, ◌++◌, length, take, drop, Option, Some, None, Result, Ok, Err}
use Rattle.std.specs.List.{prefix_len, take_while}
use Rattle.std.specs.Char.{is_ascii_digit, is_ascii_alphabetic}
use Rattle.std.specs.Str.Parse.{digits_value}
use Rattle.wc_lexer.specs.declared.token.Token.{Token}
use Rattle.wc_lexer.specs.declared.token.Token.TheVariants.{Name, Number, Quoted, Word, Symbol}
use Rattle.wc_lexer.specs.declared.token.Word.{Word as AWord}
use Rattle.wc_lexer.specs.declared.token.Symbol.{Symbol as ASymbol}
use Rattle.wc_lexer.specs.declared.error.LexError.{LexError}
use Rattle.wc_lexer.specs.declared.error.LexError.TheVariants.{OutOfMemory, BadChar, OpenText, WideNumber}
use Rattle.wc_lexer.specs.Spellings.{word_of, symbol_of, symbol_text}

-- ---- what was returned is what the definition gives, unless memory ran out
-- a call failed as the reading does, or memory ran out
abbrev pub Fails : {X : Type 0} → LexError → Result X LexError → Type 0
Fails OutOfMemory read = Unit {0}
Fails e read = read ≡ Err e

-- a call gave what the reading gives, or failed as it does
abbrev pub Gives : {X : Type 0} → Result X LexError → Result X LexError → Type 0
Gives (Ok x) read = read ≡ Ok x
Gives (Err e) read = Fails e read

infixl 10 ◌>>=◌
-- one reading after another, where the first gave something
abbrev pub ◌>>=◌ : {X Y : Type 0} → Result X LexError → (X → Result Y LexError) → Result Y LexError
(Ok x) >>= f = f x
(Err e) >>= f = Err e

-- these in front of what follows
abbrev pub joined : {X : Type 0} → List X → Result (List X) LexError → Result (List X) LexError
joined front (Ok xs) = Ok (front ++ xs)
joined front (Err e) = Err e

-- ---- characters
-- a space, a tab, or the end of a line
abbrev pub is_separator : ℕ → Bool
is_separator b = b == 32 || b == 9 || b == 13 || b == 10

-- whether a name may begin with this byte
abbrev pub begins_name : ℕ → Bool
begins_name b = is_ascii_alphabetic b || b == 95

-- whether a name may have this byte behind its first one
abbrev pub is_in_name : ℕ → Bool
is_in_name b = begins_name b || is_ascii_digit b

-- whether a byte isn't the end of a line
abbrev pub is_in_line : ℕ → Bool
is_in_line b = not (b == 10)

-- what the character behind a backslash stands for
abbrev pub escaped : ℕ → Option ℕ
escaped b =
    if b == 110 then Some 10
    else (if b == 116 then Some 9
    else (if b == 34 then Some 34
    else (if b == 92 then Some 92
    else None)))

-- ---- texts in quotes
-- The place of the closing quote among the bytes from a place on, none where the line or the text ends first.
-- The flag says that the byte before is a backslash that begins an escape.
abbrev pub closing : ℕ → Bool → List ℕ → Option ℕ
closing at e [] = None
closing at e (b ∷ bs) =
    if b == 10 then None
    else (if not e && b == 34 then Some at
    else closing (at + 1) (not e && b == 92) bs)

-- what an escape's character stands for is put in front, and any other is refused at the backslash
abbrev pub unescaped_as : ℕ → Option ℕ → Result (List ℕ) LexError → Result (List ℕ) LexError
unescaped_as at None r = Err (BadChar (at - 1))
unescaped_as at (Some b) r = joined (b ∷ []) r

-- The bytes with their escapes replaced; they begin at the place, with the same flag.
abbrev pub unescaped : ℕ → Bool → List ℕ → Result (List ℕ) LexError
unescaped at e [] = Ok []
unescaped at true (b ∷ bs) = unescaped_as at (escaped b) (unescaped (at + 1) false bs)
unescaped at false (b ∷ bs) =
    if b == 92 then unescaped (at + 1) true bs
    else joined (b ∷ []) (unescaped (at + 1) false bs)

-- ---- tokens
-- Each stands with the place behind it.
abbrev pub Read : Type 0
Read = Result (Token × ℕ) LexError

-- letters as the word that they are, else as a name
abbrev pub named_as : List ℕ → Option AWord → Token
named_as letters None = Name letters
named_as letters (Some w) = Word w

-- letters that are no reserved word are a name
abbrev pub named : List ℕ → Token
named letters = named_as letters (word_of letters)

-- the number that digits write, where it fits
abbrev pub number_of : List ℕ → Option ℕ
number_of digits = if nat_lt (digits_value 10 digits) (2 ^ 63) then Some (digits_value 10 digits) else None

-- digits as a number, or that it is too wide
abbrev pub numbered : ℕ → ℕ → Option ℕ → Read
numbered at end None = Err (WideNumber at)
numbered at end (Some n) = Ok (Number (pos n), end)

-- a text up to its closing quote, or that there is none
abbrev pub quoted_to : ℕ → List ℕ → Option ℕ → Read
quoted_to at behind None = Err (OpenText at)
quoted_to at behind (Some end) = unescaped (at + 1) false (take (end - (at + 1)) behind) >>= (λ text. Ok (Quoted text, end + 1))

-- a sign, or that a byte begins none
abbrev pub signed : ℕ → Option ASymbol → Read
signed at None = Err (BadChar at)
signed at (Some s) = Ok (Symbol s, at + length (symbol_text s))

-- a name or a reserved word at the place, where these bytes stand
abbrev pub name_at : ℕ → List ℕ → Read
name_at at bs = Ok (named (take_while is_in_name bs), at + prefix_len is_in_name bs)

-- a number
abbrev pub number_at : ℕ → List ℕ → Read
number_at at bs = numbered at (at + prefix_len is_ascii_digit bs) (number_of (take_while is_ascii_digit bs))

-- a text, whose opening quote is the first of the bytes
abbrev pub quoted_at : ℕ → List ℕ → Read
quoted_at at bs = quoted_to at (drop 1 bs) (closing (at + 1) false (drop 1 bs))

-- a sign
abbrev pub sign_at : ℕ → List ℕ → Read
sign_at at bs = signed at (symbol_of bs)

-- what the first of the bytes begins
abbrev pub begun_at : ℕ → ℕ → List ℕ → Read
begun_at at first bs =
    if begins_name first then name_at at bs
    else (if is_ascii_digit first then number_at at bs
    else (if first == 34 then quoted_at at bs
    else sign_at at bs))

-- the longest token that begins at the place, where these bytes stand
unfoldable pub token_at : ℕ → List ℕ → Read
token_at at [] = Err (BadChar at)
token_at at (b ∷ bs) = begun_at at b (b ∷ bs)

-- ---- all of a text
-- a token that is kept
abbrev pub as_some : Token × ℕ → Result (Option Token × ℕ) LexError
as_some t = Ok (Some t.0, t.1)

-- what is passed at a place: a blank, a comment, or a token
abbrev pub passed_at : ℕ → ℕ → List ℕ → Result (Option Token × ℕ) LexError
passed_at at first bs =
    if is_separator first then Ok (None, at + 1)
    else (if first == 35 then Ok (None, at + prefix_len is_in_line bs)
    else (token_at at bs >>= as_some))

-- a separator or a comment, which are no token, or a token; with the place behind it
unfoldable pub piece_at : ℕ → List ℕ → Result (Option Token × ℕ) LexError
piece_at at [] = Err (BadChar at)
piece_at at (b ∷ bs) = passed_at at b (b ∷ bs)

-- the token with its place, where there is one
abbrev pub kept_at : ℕ → Option Token → List (Token × ℕ)
kept_at at None = []
kept_at at (Some t) = (t, at) ∷ []

-- The tokens of the bytes from a place on. The first n of them belong to what was taken before.
abbrev pub tokens_from : ℕ → ℕ → List ℕ → Result (List (Token × ℕ)) LexError
tokens_from n at [] = Ok []
tokens_from (suc n) at (b ∷ bs) = tokens_from n (at + 1) bs
tokens_from zero at (b ∷ bs) = piece_at at (b ∷ bs) >>= (λ p. joined (kept_at at p.0) (tokens_from (p.1 - (at + 1)) (at + 1) bs))

-- the tokens of a text, or the first refusal
abbrev pub tokens_of : List ℕ → Result (List (Token × ℕ)) LexError
tokens_of bytes = tokens_from 0 0 bytes
