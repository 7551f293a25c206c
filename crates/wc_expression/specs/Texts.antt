-- Parts of texts.
use Rattle.std.specs.Prelude.{ℕ, Bool, ◌||◌, ◌==◌, nat_eq, if◌then◌else◌, List, [], ◌∷◌}
use Rattle.std.specs.List.{slice_split, starts_with}

-- a space, tab, line feed or carriage return
abbrev pub is_white : ℕ → Bool
is_white b = (b == 32) || (b == 9) || (b == 10) || (b == 13)

-- a text without the white space that it begins with
abbrev pub without_start : List ℕ → List ℕ
without_start [] = []
without_start (b ∷ bs) = if is_white b then without_start bs else b ∷ bs

-- white space at the end goes
abbrev pub ending : ℕ → List ℕ → List ℕ
ending b [] = if is_white b then [] else b ∷ []
ending b (c ∷ cs) = b ∷ c ∷ cs

-- a text without the white space that it ends with
abbrev pub without_end : List ℕ → List ℕ
without_end [] = []
without_end (b ∷ bs) = ending b (without_end bs)

-- A text without the white space at its ends
abbrev pub trimmed : List ℕ → List ℕ
trimmed text = without_end (without_start text)

-- the pieces of a text cut at each line feed
abbrev pub pieces : List ℕ → List (List ℕ)
pieces text = slice_split (λ b. b == 10) text

-- whether a text stands in another
abbrev pub stands_in : List ℕ → List ℕ → Bool
stands_in part [] = starts_with nat_eq [] part
stands_in part (b ∷ bs) = starts_with nat_eq (b ∷ bs) part || stands_in part bs
