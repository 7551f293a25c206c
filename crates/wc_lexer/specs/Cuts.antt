-- What it is for tokens to be those of a text, in the words of its grammar.
use Rattle.std.specs.Prelude.{ℕ, ◌+◌, ◌≤◌, ◌<◌, ◌^◌, ◌==◌, ◌≡◌, ◌&&◌, not, Bool, true, false, if◌then◌else◌, pos, List, [], ◌∷◌, ◌++◌, length, Option, Some, None, IsSome}
use Rattle.std.specs.List.{list_all, flat_map, AllByRecursion}
use Rattle.std.specs.Prelude.{map, ◌⊎◌}
use Rattle.std.specs.Char.{is_ascii_digit}
use Rattle.std.specs.Str.Parse.{digits_value}
use Rattle.wc_lexer.specs.declared.token.Token.{Token}
use Rattle.wc_lexer.specs.declared.token.Token.TheVariants.{Name, Number, Quoted, Word, Symbol}
use Rattle.wc_lexer.specs.Spellings.{word_text, symbol_text, word_of}
use Rattle.wc_lexer.specs.Tokens.{is_separator, begins_name, is_in_name, escaped}

-- ---- between tokens
-- Whether a comment is open behind the bytes, where they are separators and comments alone. A comment runs from `#`
-- to the end of its line. The flag says whether one is open before them.
abbrev pub comment_after : Bool → List ℕ → Option Bool
comment_after inside [] = Some inside
comment_after true (b ∷ bs) = comment_after (not (b == 10)) bs
comment_after false (b ∷ bs) =
    if is_separator b then comment_after false bs
    else (if b == 35 then comment_after true bs
    else None)

-- ---- spellings
-- a letter or `_`, then letters, digits and `_`
abbrev pub is_letters : List ℕ → Bool
is_letters [] = false
is_letters (b ∷ bs) = begins_name b && list_all is_in_name bs

-- one or more digits
abbrev pub is_numeral : List ℕ → Bool
is_numeral [] = false
is_numeral (b ∷ bs) = is_ascii_digit b && list_all is_ascii_digit bs

-- a byte of a text's content as it is written, with the byte that it means: itself, or an escape
abbrev pub IsPiece : List ℕ × ℕ → Type 0
IsPiece p =
    ((p.0 ≡ p.1 ∷ []) × ((p.1 == 34) ≡ false) × ((p.1 == 92) ≡ false) × ((p.1 == 10) ≡ false))
    ⊎ ((c : ℕ) × ((p.0 ≡ 92 ∷ c ∷ []) × (escaped c ≡ Some p.1)))

-- the bytes of pieces one after another
abbrev pub written : List (List ℕ × ℕ) → List ℕ
written pieces = flat_map (λ p. p.0) pieces

-- the content between quotes
abbrev pub IsQuoted : List ℕ → List ℕ → Type 0
IsQuoted text bs =
    (pieces : List (List ℕ × ℕ)) × (AllByRecursion IsPiece pieces × ((text ≡ map (λ p. p.1) pieces) × (bs ≡ 34 ∷ (written pieces ++ 34 ∷ []))))

-- the bytes spell the token, whose number may be of any size
abbrev pub Spells : Token → List ℕ → Type 0
Spells (Name text) bs = (is_letters bs ≡ true) × (word_of bs ≡ None) × (text ≡ bs)
Spells (Number n) bs = (is_numeral bs ≡ true) × (n ≡ pos (digits_value 10 bs))
Spells (Quoted text) bs = IsQuoted text bs
Spells (Word w) bs = bs ≡ word_text w
Spells (Symbol s) bs = bs ≡ symbol_text s

-- no longer token begins where these bytes stand, before the rest
abbrev pub IsLongest : List ℕ → List ℕ → Type 0
IsLongest lexeme rest = (other : Token) (longer after : List ℕ) → lexeme ++ rest ≡ longer ++ after → Spells other longer → length longer ≤ length lexeme

-- numbers fit
abbrev pub Fits : Token → Type 0
Fits (Number n) = (m : ℕ) × ((n ≡ pos m) × (m < 2 ^ 63))
Fits _ = Unit {0}

-- ---- a text
-- the token at the offset, at which these bytes begin: behind separators and comments stands its spelling, and no
-- longer token begins there
pub record IsNext (at : ℕ) (bs : List ℕ) (token : Token) (offset : ℕ) (lexeme rest : List ℕ) : Type 0 where
  pub gap : List ℕ
  pub splits : bs ≡ gap ++ (lexeme ++ rest)
  pub between : comment_after false gap ≡ Some false
  pub here : offset ≡ at + length gap
  pub spells : Spells token lexeme
  pub fits : Fits token
  pub longest : IsLongest lexeme rest

-- the tokens of the bytes, which begin at a place
abbrev pub AreTokens : ℕ → List ℕ → List (Token × ℕ) → Type 0
AreTokens at bs [] = IsSome (comment_after false bs)
AreTokens at bs (t ∷ ts) = (lexeme rest : List ℕ) × (IsNext at bs t.0 t.1 lexeme rest × AreTokens (t.1 + length lexeme) rest ts)
