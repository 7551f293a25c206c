-- How deep tokens nest, and how much a statement weighs, by a walk over them.
use Rattle.std.specs.Prelude.{ℕ, ◌+◌, ◌-◌, ◌||◌, nat_lt, Bool, false, if◌then◌else◌, List, [], ◌∷◌, Option, Some, None}
use Rattle.wc_lexer.specs.declared.token.Token.{Token}
use Rattle.wc_lexer.specs.Bounds.{is_called, weight_of, ends_statement, opens_brace, closes_brace, opens_bracket, closes_bracket}
use Rattle.wc_reader.specs.declared.depth.Walk.{Walk}
use Rattle.wc_grammar.specs.Rules.{Tok}

-- A closing symbol with nothing open lowers nothing.
abbrev pub level_after : Bool → Bool → ℕ → ℕ
level_after opens closes n = if opens then n + 1 else (if closes then n - 1 else n)

-- how many braces are open behind a token
abbrev pub braces_after : ℕ → Token → ℕ
braces_after n t = level_after (opens_brace t) (closes_brace t) n

-- how many brackets are open behind a token
abbrev pub brackets_after : ℕ → Token → ℕ
brackets_after n t = level_after (opens_bracket t) (closes_bracket t) n

-- the weight of a statement behind a token, 0 at its end
abbrev pub weight_after : ℕ → Bool → Token → ℕ
weight_after n called t = if ends_statement t then 0 else n + weight_of called t

-- what is open, and the weight of the statement so far, once a token is passed
abbrev pub after : Walk → Token → Walk
after w t = record {
  braces = braces_after w.braces t;
  brackets = brackets_after w.brackets t;
  weight = weight_after w.weight w.called t;
  called = is_called t;
}

-- where the walk of nesting and weight begins
abbrev pub start : Walk
start = record { braces = 0; brackets = 0; weight = 0; called = false }

-- more than 24 braces or 128 brackets are open, or the statement weighs more than 100
abbrev pub is_past : Walk → Bool
is_past w = nat_lt 24 w.braces || (nat_lt 128 w.brackets || nat_lt 100 w.weight)

-- the first token that leads past a bound
abbrev pub deep_from : Walk → List Tok → Option ℕ
deep_from w [] = None
deep_from w (t ∷ ts) = if is_past (after w t.0) then Some t.1 else deep_from (after w t.0) ts

-- The first token that leads past 24 braces, 128 brackets, or a weight of 100 in a statement, by a walk
abbrev pub too_deep : List Tok → Option ℕ
too_deep ts = deep_from start ts
