-- The answer of a search.
use Rattle.std.specs.Prelude.{ℕ, List, ◌↔◌, ◌≤◌, Contains, length}
use Rattle.std.specs.List.Sorted.{IsStrictlyIncreasing}

-- A number of a node that is there, counted from 1
abbrev pub IsNode : {T : Type 0} → List T → ℕ → Type 0
IsNode nodes id = (1 ≤ id) × (id ≤ length nodes)

-- exactly the numbers of which P holds, ascending
pub record AreExactly (P : ℕ → Type 0) (ids : List ℕ) : Type 0 where
  pub ascend : IsStrictlyIncreasing ids
  pub each : (id : ℕ) → Contains ids id ↔ P id
