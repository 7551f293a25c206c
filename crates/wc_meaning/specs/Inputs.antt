-- Which inputs of a process are bad, and the least port that has one.
use Rattle.std.specs.Prelude.{◌≡◌, ℕ, true, false, not, ◌&&◌, is_none, if◌then◌else◌, List, [], ◌∷◌, ◌++◌, Option, Some, None}
use Rattle.std.specs.List.{AllByRecursion}
use Rattle.wc_value.specs.Ascending.{before, lookup}
use Rattle.wc_value.specs.declared.value.Value.{Value}
use Rattle.wc_syntax.specs.Findings.{is_among}
use Rattle.wc_syntax.specs.declared.definition.Port.{Port}
use Rattle.wc_semantics.specs.Meaning.{is_good}

-- the lesser of the least so far and a name, by their bytes
abbrev pub lesser : Option (List ℕ) → List ℕ → Option (List ℕ)
lesser None name = Some name
lesser (Some least) name = Some (if before name least then name else least)

-- the least name, of one and those behind it
abbrev pub least_after : Option (List ℕ) → List (List ℕ) → Option (List ℕ)
least_after best [] = best
least_after best (n ∷ ns) = least_after (lesser best n) ns

-- the least of these names
abbrev pub least : List (List ℕ) → Option (List ℕ)
least = least_after None

-- a name is the least of these: it is one of them, and none of them stands before it
pub record IsLeast (names : List (List ℕ)) (name : List ℕ) : Type 0 where
  pub among : is_among name names ≡ true
  pub first : AllByRecursion (λ n. before n name ≡ false) names

-- the inputs that no port takes
abbrev pub wrong_inputs : List Port → List (List ℕ × Value) → List (List ℕ)
wrong_inputs ports [] = []
wrong_inputs ports (i ∷ is) = if is_good ports i then wrong_inputs ports is else i.0 ∷ wrong_inputs ports is

-- the required ports without an input
abbrev pub missing_inputs : List Port → List (List ℕ × Value) → List (List ℕ)
missing_inputs [] inputs = []
missing_inputs (p ∷ ps) inputs =
    if not p.optional && is_none (lookup p.name.text inputs) then p.name.text ∷ missing_inputs ps inputs else missing_inputs ps inputs

-- The least port, by the bytes of its name, that has an input that it doesn't take, or that is required and has none
abbrev pub bad_input : List Port → List (List ℕ × Value) → Option (List ℕ)
bad_input ports inputs = least (wrong_inputs ports inputs ++ missing_inputs ports inputs)
