-- What an answer of the parser says of a text.
use Rattle.std.specs.Prelude.{ℕ, ◌<◌, ◌≤◌, ◌≡◌, ◌⊎◌, List, length, Some, None, Result, Ok, Err}
use Rattle.wc_lexer.specs.declared.error.LexError.{LexError}
use Rattle.wc_lexer.specs.Tokens.{tokens_of}
use Rattle.wc_syntax.specs.declared.definition.Definition.{Definition}
use Rattle.wc_syntax.specs.Printing.{printed}
use Rattle.wc_grammar.specs.Rules.{Tok}
use Rattle.wc_parser.specs.declared.error.ParseError.{ParseError}
use Rattle.wc_parser.specs.declared.error.ParseError.TheVariants.{OutOfMemory, TooLong, Lex, TooDeep, Unexpected, EndOfText}
use Rattle.wc_reader.specs.Grammar.{Derives}
use Rattle.wc_reader.specs.Answer.{Breaks, Cut}
use Rattle.wc_reader.specs.Depth.{too_deep}

-- what a text is read as: a library, or a refusal
abbrev pub Parsed : Type 0
Parsed = Result (List Definition) ParseError

-- a text of at most 1,048,576 bytes has these tokens, which stay within the bounds on nesting and weight
pub record HasTokens (bytes : List ℕ) (tokens : List Tok) : Type 0 where
  pub short : length bytes ≤ 1048576
  pub cut : tokens_of bytes ≡ Ok tokens
  pub flat : too_deep tokens ≡ None

-- the token at this offset is the first that leads past a bound on nesting or weight
pub record GoesDeep (bytes : List ℕ) (at : ℕ) : Type 0 where
  pub short : length bytes ≤ 1048576
  pub tokens : List Tok
  pub cut : tokens_of bytes ≡ Ok tokens
  pub deep : too_deep tokens ≡ Some at

-- the text is that of the library, whatever the length of the library's printed text
abbrev pub IsTextOf : List ℕ → List Definition → Type 0
IsTextOf bytes library = (ts : List Tok) × HasTokens bytes ts × Derives ts library

-- the text is a library's whose printed text has more than 1,048,576 bytes
abbrev pub PrintsLong : List ℕ → Type 0
PrintsLong bytes = (library : List Definition) × IsTextOf bytes library × (1048576 < length (printed library))

-- What an answer says of a text: its library, whose printed text is short enough, or the first refusal of the order
abbrev pub TextSays : List ℕ → Parsed → Type 0
TextSays bytes (Ok library) = IsTextOf bytes library × (length (printed library) ≤ 1048576)
TextSays bytes (Err TooLong) = (1048576 < length bytes) ⊎ PrintsLong bytes
TextSays bytes (Err (Lex e)) = (length bytes ≤ 1048576) × (tokens_of bytes ≡ Err e)
TextSays bytes (Err (TooDeep at)) = GoesDeep bytes at
TextSays bytes (Err (Unexpected at)) = (ts : List Tok) × HasTokens bytes ts × Breaks ts at
TextSays bytes (Err EndOfText) = (ts : List Tok) × HasTokens bytes ts × Cut ts
TextSays bytes (Err OutOfMemory) = ⊥

-- what was returned says this of the text, unless memory ran out
abbrev pub TextTold : List ℕ → Parsed → Type 0
TextTold bytes (Err OutOfMemory) = Unit {0}
TextTold bytes r = TextSays bytes r

-- what was returned is this answer, unless memory ran out
abbrev pub TextMeets : Parsed → Parsed → Type 0
TextMeets (Err OutOfMemory) r = Unit {0}
TextMeets result r = result ≡ r

-- A text has exactly one answer.
abbrev pub OneTextAnswer : Type 0
OneTextAnswer = (bytes : List ℕ) (r s : Parsed) → TextSays bytes r → TextSays bytes s → r ≡ s

-- ---- the steps of the code
-- what cutting a text into tokens returned, unless memory ran out
abbrev pub Lexes : Result (List Tok) ParseError → Result (List Tok) LexError → Type 0
Lexes (Ok ts) c = c ≡ Ok ts
Lexes (Err (Lex e)) c = c ≡ Err e
Lexes (Err OutOfMemory) c = Unit {0}
Lexes (Err _) c = ⊥

-- what was returned says this of tokens, unless memory ran out
abbrev pub TokensTold : List Tok → Parsed → Type 0
TokensTold ts (Ok library) = (too_deep ts ≡ None) × Derives ts library
TokensTold ts (Err (TooDeep at)) = too_deep ts ≡ Some at
TokensTold ts (Err (Unexpected at)) = (too_deep ts ≡ None) × Breaks ts at
TokensTold ts (Err EndOfText) = (too_deep ts ≡ None) × Cut ts
TokensTold ts (Err OutOfMemory) = Unit {0}
TokensTold ts (Err _) = ⊥

-- what was kept of a library, whose printed text may be too long
abbrev pub Limited : List Definition → Parsed → Type 0
Limited library (Ok kept) = (kept ≡ library) × (length (printed library) ≤ 1048576)
Limited library (Err TooLong) = 1048576 < length (printed library)
Limited library (Err OutOfMemory) = Unit {0}
Limited library (Err _) = ⊥

-- what was returned says this of tokens, unless memory ran out
abbrev pub LimitedTold : List Tok → Parsed → Type 0
LimitedTold ts (Ok library) = (too_deep ts ≡ None) × Derives ts library × (length (printed library) ≤ 1048576)
LimitedTold ts (Err TooLong) = (library : List Definition) × (too_deep ts ≡ None) × Derives ts library × (1048576 < length (printed library))
LimitedTold ts r = TokensTold ts r
