-- Lists of entries whose names strictly ascend by their bytes.
use Rattle.std.specs.Prelude.{ℕ, suc, Bool, true, false, List, [], ◌∷◌, Option, Some, None, if◌then◌else◌}
use Rattle.std.specs.Str.{bytes_eq}
use Rattle.std.specs.Ordering.{nat_cmp, is_lt}
use Rattle.std.specs.Cmp.Lexicographic.{slice_cmp}
use Rattle.std.specs.List.Sorted.{IsStrictlySortedBy}
use Rattle.std.specs.Map.{keys_of}

-- each name comes before those after it
abbrev pub Ascends : {T : Type 0} → List (List ℕ × T) → Type 0
Ascends es = IsStrictlySortedBy (slice_cmp nat_cmp) (keys_of es)

-- the value of the entry with this name
abbrev pub lookup : {T : Type 0} → List ℕ → List (List ℕ × T) → Option T
lookup name [] = None
lookup name (e ∷ es) = if bytes_eq e.0 name then Some e.1 else lookup name es

-- the name a stands before the name b
abbrev pub before : List ℕ → List ℕ → Bool
before a b = is_lt (slice_cmp nat_cmp a b)

-- the name comes after the last one
abbrev pub goes_last : {T : Type 0} → List ℕ → List (List ℕ × T) → Bool
goes_last name [] = true
goes_last name (e ∷ []) = before e.0 name
goes_last name (e ∷ f ∷ es) = goes_last name (f ∷ es)

-- the entries with this name's value set: in the place of the one that had the name, or in the place of its order
abbrev pub put : {T : Type 0} → List ℕ → T → List (List ℕ × T) → List (List ℕ × T)
put name value [] = (name, value) ∷ []
put name value (e ∷ es) =
    if before e.0 name then e ∷ put name value es
    else if bytes_eq e.0 name then (name, value) ∷ es
    else (name, value) ∷ e ∷ es

-- how many entries stand before the name
abbrev pub place : {T : Type 0} → List ℕ → List (List ℕ × T) → ℕ
place name [] = 0
place name (e ∷ es) = if before e.0 name then suc (place name es) else 0

-- whether the entry, if there is one, has the name
abbrev pub is_named : {T : Type 0} → List ℕ → Option (List ℕ × T) → Bool
is_named name None = false
is_named name (Some e) = bytes_eq e.0 name

-- the value of the entry, if there is one and it has the name
abbrev pub value_named : {T : Type 0} → List ℕ → Option (List ℕ × T) → Option T
value_named name None = None
value_named name (Some e) = if bytes_eq e.0 name then Some e.1 else None
