-- Lists with a gap of places in them.
use Rattle.std.specs.Prelude.{◌≡◌, ℕ, ◌<◌, ◌≤◌, ◌+◌, ◌-◌, Bool, false, List, length, slice_index_or}

-- The first list has the items of the other, with a gap of so many places before this one.
pub record HasGap {T : Type 0} (spread all : List T) (at gap : ℕ) : Type 0 where
  pub len : length spread ≡ length all + gap
  pub within : at ≤ length all
  pub front : (k : ℕ) (e : T) → k < at → slice_index_or spread k e ≡ slice_index_or all k e
  pub back : (k : ℕ) (e : T) → at ≤ k → k < length all → slice_index_or spread (k + gap) e ≡ slice_index_or all k e

-- An item was put into the last place of a gap, once the items in front of it from this place on were moved over the gap.
pub record PutsInGap {T : Type 0} (old new : List T) (at to gap : ℕ) (d : T) : Type 0 where
  pub len : length new ≡ length old
  pub front : (k : ℕ) (e : T) → k < to → slice_index_or new k e ≡ slice_index_or old k e
  pub item : (e : T) → slice_index_or new (to + (gap - 1)) e ≡ d
  pub moved : (k : ℕ) (e : T) → to ≤ k → k < at → slice_index_or new (k + gap) e ≡ slice_index_or old k e
  pub back : (k : ℕ) (e : T) → at + gap ≤ k → slice_index_or new k e ≡ slice_index_or old k e

-- No item from this place on comes before one of the first so many items of another list.
abbrev pub NoneBefore : {T : Type 0} → (T → T → Bool) → List T → ℕ → List T → ℕ → Type 0
NoneBefore {T} before all at items count = (k j : ℕ) (d e : T) → at ≤ k → k < length all → j < count → before (slice_index_or all k d) (slice_index_or items j e) ≡ false
