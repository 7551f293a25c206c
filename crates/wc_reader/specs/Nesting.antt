-- What the walk over tokens says of the bounds on nesting and weight.
use Rattle.std.specs.Prelude.{◌≡◌, ℕ, ◌↔◌, List, [], ◌∷◌, ◌++◌, Option, Some, None}
use Rattle.wc_lexer.specs.Bounds.{IsPast, StaysWithin}
use Rattle.wc_grammar.specs.Rules.{Tok}
use Rattle.wc_reader.specs.Depth.{too_deep}

-- the tokens up to the one at this offset are past a bound, and no fewer of them are
pub record FirstPast (ts : List Tok) (at : ℕ) : Type 0 where
  pub front : List Tok
  pub token : Tok
  pub after : List Tok
  pub splits : ts ≡ front ++ token ∷ after
  pub here : at ≡ token.1
  pub past : IsPast (front ++ token ∷ [])
  pub within : (fewer others : List Tok) → front ≡ fewer ++ others → IsPast fewer → ⊥

-- the place is the first at which the bounds are passed, or none is
abbrev pub SaysDeep : List Tok → Option ℕ → Type 0
SaysDeep ts (Some at) = FirstPast ts at
SaysDeep ts None = StaysWithin ts

-- The walk names exactly the first token that leads past a bound.
abbrev pub NamesFirst : Type 0
NamesFirst = (ts : List Tok) (o : Option ℕ) → (too_deep ts ≡ o) ↔ SaysDeep ts o
