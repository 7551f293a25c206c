-- Rows of numbers in order, and the first of those of which something holds.
use Rattle.std.specs.Prelude.{◌≡◌, ◌⊎◌, ◌<◌, ◌≤◌, ℕ, List, [], ◌∷◌, length}
use Rattle.std.specs.List.{AllByRecursion}

-- one row comes before another as long: by the first number in which they differ
abbrev pub ComesBefore : List ℕ → List ℕ → Type 0
ComesBefore [] ns = ⊥
ComesBefore (m ∷ ms) [] = ⊥
ComesBefore (m ∷ ms) (n ∷ ns) = (m < n) ⊎ ((m ≡ n) × ComesBefore ms ns)

-- each row comes before those behind it
abbrev pub Ascend : List (List ℕ) → Type 0
Ascend [] = Unit {0}
Ascend (r ∷ rs) = AllByRecursion (ComesBefore r) rs × Ascend rs

-- a row is one of these
abbrev pub IsAmong : List (List ℕ) → List ℕ → Type 0
IsAmong [] row = ⊥
IsAmong (r ∷ rs) row = (r ≡ row) ⊎ IsAmong rs row

-- The rows, at most so many, are the first of those of which P holds: they ascend, and any other comes behind all of them, of which there are
-- then so many.
pub record AreFirst (P : List ℕ → Type 0) (most : ℕ) (rows : List (List ℕ)) : Type 0 where
  pub ascend : Ascend rows
  pub each : AllByRecursion P rows
  pub few : length rows ≤ most
  pub others : (row : List ℕ) → P row → IsAmong rows row ⊎ ((length rows ≡ most) × AllByRecursion (λ r. ComesBefore r row) rows)

-- there is a further row of which P holds
abbrev pub HasMore : (List ℕ → Type 0) → List (List ℕ) → Type 0
HasMore P rows = (row : List ℕ) × P row × (IsAmong rows row → ⊥)
