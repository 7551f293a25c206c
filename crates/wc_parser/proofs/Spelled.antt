-- What the tokens of a text spell.
use Rattle.std.proofs.Common.{◌≡◌, ℕ, ◌+◌, ◌<◌, ◌^◌, List, [], ◌∷◌, ◌++◌, length, pos, true, None, Ok, ap, ◌∙◌}
use Rattle.wc_lexer.specs.declared.token.Token.{Token}
use Rattle.wc_lexer.specs.declared.token.Token.TheVariants as token
use Rattle.wc_lexer.specs.Spellings.{word_of}
use Rattle.wc_lexer.specs.Tokens.{tokens_of}
use Rattle.wc_lexer.specs.Cuts.{is_letters, Spells, Fits, AreTokens}
use Rattle.wc_lexer.proofs.Cutting.{cut_of}
use Rattle.wc_parser.specs.PrintedTokens.{Tokens}
use Rattle.wc_parser.proofs.Derived.{bare}

-- a name that is no reserved word, a number from 0 to below 2^63, or anything else
abbrev pub IsSpelled : Token → Type 0
IsSpelled (token.Name text) = (is_letters text ≡ true) × (word_of text ≡ None)
IsSpelled (token.Number n) = (m : ℕ) × ((n ≡ pos m) × (m < 2 ^ 63))
IsSpelled _ = Unit {0}

-- each token is so
abbrev pub AreSpelled : List (Token × ℕ) → Type 0
AreSpelled [] = Unit {0}
AreSpelled (t ∷ ts) = IsSpelled t.0 × AreSpelled ts

spelled_token : (t : Token) (lexeme : List ℕ) → Spells t lexeme → Fits t → IsSpelled t
spelled_token (token.Name text) lexeme h f = (ap is_letters h.2 ∙ h.0, ap word_of h.2 ∙ h.1)
spelled_token (token.Number n) lexeme h f = f
spelled_token (token.Quoted text) lexeme h f = tt
spelled_token (token.Word w) lexeme h f = tt
spelled_token (token.Symbol s) lexeme h f = tt

are_spelled : (ts : List (Token × ℕ)) (at : ℕ) (bytes : List ℕ) → AreTokens at bytes ts → AreSpelled ts
are_spelled [] at bytes h = tt
are_spelled (t ∷ ts) at bytes h = (spelled_token t.0 h.0 h.2.0.spells h.2.0.fits, are_spelled ts (t.1 + length h.0) h.1 h.2.1)

-- The tokens of a text are spelled so.
pub tokens_spelled : (bytes : List ℕ) (ts : List (Token × ℕ)) → tokens_of bytes ≡ Ok ts → AreSpelled ts
tokens_spelled bytes ts e = are_spelled ts 0 bytes (cut_of bytes (Ok ts) e)

-- ---- without offsets
abbrev pub AllSpelled : Tokens → Type 0
AllSpelled [] = Unit {0}
AllSpelled (t ∷ ts) = IsSpelled t × AllSpelled ts

pub bare_spelled : (ts : List (Token × ℕ)) → AreSpelled ts → AllSpelled (bare ts)
bare_spelled [] h = tt
bare_spelled (t ∷ ts) h = (h.0, bare_spelled ts h.1)

pub spelled_left : (xs ys : Tokens) → AllSpelled (xs ++ ys) → AllSpelled xs
spelled_left [] ys h = tt
spelled_left (x ∷ xs) ys h = (h.0, spelled_left xs ys h.1)

pub spelled_right : (xs ys : Tokens) → AllSpelled (xs ++ ys) → AllSpelled ys
spelled_right [] ys h = h
spelled_right (x ∷ xs) ys h = spelled_right xs ys h.1
