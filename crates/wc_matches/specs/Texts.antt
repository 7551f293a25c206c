-- The text of rows.
use Rattle.std.specs.Prelude.{ℕ, Bool, true, false, List, [], ◌∷◌, ◌++◌, length, flat_map, codes}
use Rattle.std.specs.Fmt.{decimal}

-- numbers, each behind a space
abbrev pub further_text : List ℕ → List ℕ
further_text = flat_map (λ n. codes " " ++ decimal n)

-- the numbers of a row with single spaces between them, and a line feed
abbrev pub row_line : List ℕ → List ℕ
row_line [] = codes "\n"
row_line (n ∷ ns) = decimal n ++ further_text ns ++ codes "\n"

-- what is written where further rows match: ` more`, else nothing
abbrev pub more_text : Bool → List ℕ
more_text true = codes " more"
more_text false = []

-- how many rows there are, and whether there are further ones
abbrev pub count_line : ℕ → Bool → List ℕ
count_line count more = codes "rows " ++ decimal count ++ more_text more ++ codes "\n"

-- a line for each row, and then how many there are and whether there are further ones
abbrev pub rows_text : List (List ℕ) → Bool → List ℕ
rows_text rows more = flat_map row_line rows ++ count_line (length rows) more
