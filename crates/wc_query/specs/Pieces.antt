-- Parts of a word.
use Rattle.std.specs.Prelude.{ℕ, ◌-◌, ◌==◌, nat_eq, if◌then◌else◌, List, [], length, take, drop, Option, Some, None, codes}
use Rattle.std.specs.List.{slice_split, starts_with, ends_with}

-- what is behind this beginning of a text, if the text begins so
unfoldable pub behind : List ℕ → List ℕ → Option (List ℕ)
behind beginning text = if starts_with nat_eq text beginning then Some (drop (length beginning) text) else None

-- a text without the `*` that it ends with, if it ends so
unfoldable pub without_star : List ℕ → Option (List ℕ)
without_star text = if ends_with nat_eq text (codes "*") then Some (take (length text - 1) text) else None

-- the pieces of a text cut at each comma
unfoldable pub pieces : List ℕ → List (List ℕ)
pieces text = slice_split (λ b. b == 44) text

-- those of a text that may not be there
abbrev pub pieces_of : Option (List ℕ) → List (List ℕ)
pieces_of None = []
pieces_of (Some text) = pieces text
