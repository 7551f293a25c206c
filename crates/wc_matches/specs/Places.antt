-- Rows that stand one behind another in one list of numbers.
use Rattle.std.specs.Prelude.{◌≤◌, ◌-◌, ℕ, List, [], ◌∷◌, take, drop}
use Rattle.wc_matches.specs.declared.rows.Place.{Place}

-- the numbers from where a row begins to where it ends
abbrev pub row_of : List ℕ → Place → List ℕ
row_of numbers place = take (place.to - place.from) (drop place.from numbers)

-- the row at each place
abbrev pub rows_of : List ℕ → List Place → List (List ℕ)
rows_of numbers [] = []
rows_of numbers (place ∷ places) = row_of numbers place ∷ rows_of numbers places

-- each place is among so many numbers
abbrev pub AreInside : ℕ → List Place → Type 0
AreInside size [] = Unit {0}
AreInside size (place ∷ places) = (place.from ≤ place.to) × (place.to ≤ size) × AreInside size places
