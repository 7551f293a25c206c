-- Lists in a strict order, with one item put in or taken out.
use Rattle.std.specs.Prelude.{◌≡◌, ℕ, ◌<◌, ◌≤◌, Bool, true, false, not, ◌&&◌, if◌then◌else◌, List, [], ◌∷◌, length, Option, Some, None, slice_index_or}

-- One of two different items comes before the other, and items come in one line.
pub record IsOrder {T : Type 0} (before : T → T → Bool) : Type 0 where
  pub not_itself : (x : T) → before x x ≡ false
  pub one_way : (x y : T) → before x y ≡ true → before y x ≡ false
  pub same : (x y : T) → before x y ≡ false → before y x ≡ false → x ≡ y
  pub along : (x y z : T) → before x y ≡ true → before y z ≡ true → before x z ≡ true

-- neither of two items comes before the other
abbrev pub is_same : {T : Type 0} → (T → T → Bool) → T → T → Bool
is_same before x y = not (before x y) && not (before y x)

-- Each item of the list comes after this one.
abbrev pub AllAfter : {T : Type 0} → (T → T → Bool) → T → List T → Type 0
AllAfter before d [] = Unit {0}
AllAfter before d (x ∷ xs) = (before d x ≡ true) × AllAfter before d xs

-- Each item comes before those behind it.
abbrev pub IsSorted : {T : Type 0} → (T → T → Bool) → List T → Type 0
IsSorted before [] = Unit {0}
IsSorted before (x ∷ xs) = AllAfter before x xs × IsSorted before xs

-- the item in front of a list, where it is wanted
abbrev pub if_wanted : {T : Type 0} → T → Bool → List T → List T
if_wanted d wanted xs = if wanted then d ∷ xs else xs

-- the list in order with this item, where it is wanted, and else without it
abbrev pub marked : {T : Type 0} → (T → T → Bool) → T → Bool → List T → List T
marked before d wanted [] = if_wanted d wanted []
marked before d wanted (x ∷ xs) =
    if before x d then x ∷ marked before d wanted xs
    else (if before d x then if_wanted d wanted (x ∷ xs) else if_wanted d wanted xs)

-- The items before the place come before this one, and those from it on don't.
pub record IsPlace {T : Type 0} (before : T → T → Bool) (d : T) (xs : List T) (at : ℕ) : Type 0 where
  pub within : at ≤ length xs
  pub front : (k : ℕ) (x : T) → k < at → before (slice_index_or xs k x) d ≡ true
  pub back : (k : ℕ) (x : T) → at ≤ k → k < length xs → before (slice_index_or xs k x) d ≡ false

-- there is an item, and it passes the test
abbrev pub is_item : {T : Type 0} → (T → Bool) → Option T → Bool
is_item test None = false
is_item test (Some x) = test x
