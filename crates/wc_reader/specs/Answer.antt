-- What an answer of the reading says of the tokens.
use Rattle.std.specs.Prelude.{ℕ, ◌≡◌, List, [], ◌∷◌, ◌++◌, Result, Ok, Err}
use Rattle.wc_syntax.specs.declared.definition.Definition.{Definition}
use Rattle.wc_grammar.specs.declared.fault.Fault.{Fault}
use Rattle.wc_grammar.specs.declared.fault.Fault.TheVariants as fault
use Rattle.wc_grammar.specs.Rules.{Tok}
use Rattle.wc_reader.specs.declared.error.ReadError.{ReadError}
use Rattle.wc_reader.specs.declared.error.ReadError.TheVariants.{OutOfMemory, Unexpected, EndOfText}
use Rattle.wc_reader.specs.Grammar.{Derives}

-- some library's tokens begin so
abbrev pub GoesOn : List Tok → Type 0
GoesOn front = (more : List Tok) × (library : List Definition) × Derives (front ++ more) library

-- the first token with which no library's tokens go on is at this offset
pub record Breaks (ts : List Tok) (at : ℕ) : Type 0 where
  pub front : List Tok
  pub token : Tok
  pub after : List Tok
  pub splits : ts ≡ front ++ token ∷ after
  pub here : at ≡ token.1
  pub goes_on : GoesOn front
  pub ends : GoesOn (front ++ token ∷ []) → ⊥

-- a library's tokens begin so, and these are no library's
pub record Cut (ts : List Tok) : Type 0 where
  pub goes_on : GoesOn ts
  pub no_library : (library : List Definition) → Derives ts library → ⊥

-- what tokens are read as: a library, or a refusal
abbrev pub Answer : Type 0
Answer = Result (List Definition) ReadError

-- What an answer says of the tokens: the library for which they stand, or the first fault; the reading itself never wants memory
abbrev pub Says : List Tok → Answer → Type 0
Says ts (Ok library) = Derives ts library
Says ts (Err (Unexpected at)) = Breaks ts at
Says ts (Err EndOfText) = Cut ts
Says ts (Err OutOfMemory) = ⊥

-- what was returned says this of the tokens, unless memory ran out
abbrev pub Told : List Tok → Answer → Type 0
Told ts (Err OutOfMemory) = Unit {0}
Told ts r = Says ts r

-- what was returned is this answer, unless memory ran out
abbrev pub Meets : Answer → Answer → Type 0
Meets (Err OutOfMemory) r = Unit {0}
Meets result r = result ≡ r

-- what was returned is what the reading within a bound gave, which was high enough, unless memory ran out
abbrev pub Sees : Answer → Result (List Definition) Fault → Type 0
Sees (Ok library) r = r ≡ Ok library
Sees (Err (Unexpected at)) r = r ≡ Err (fault.Unexpected at)
Sees (Err EndOfText) r = r ≡ Err fault.EndOfText
Sees (Err OutOfMemory) r = Unit {0}

-- Tokens are one library's at most.
abbrev pub OneLibrary : Type 0
OneLibrary = (ts : List Tok) (a b : List Definition) → Derives ts a → Derives ts b → a ≡ b

-- One answer at most says what holds of tokens.
abbrev pub OneAnswer : Type 0
OneAnswer = (ts : List Tok) (r s : Answer) → Says ts r → Says ts s → r ≡ s

-- Some answer says what holds of tokens.
abbrev pub SomeAnswer : Type 0
SomeAnswer = (ts : List Tok) → (r : Answer) × Says ts r
