-- Numbers in order, and rows with one of them behind.
use Rattle.std.specs.Prelude.{◌≡◌, ◌<◌, ◌↔◌, ℕ, true, List, [], ◌∷◌, ◌++◌, map}
use Rattle.std.specs.List.{AllByRecursion}
use Rattle.wc_matches.specs.Found.{has}

-- each number is below those behind it
abbrev pub Ascends : List ℕ → Type 0
Ascends [] = Unit {0}
Ascends (n ∷ ns) = AllByRecursion (λ m. n < m) ns × Ascends ns

-- exactly the numbers of which P holds, each once and in order
pub record AreNumbers (P : ℕ → Type 0) (ns : List ℕ) : Type 0 where
  pub ascend : Ascends ns
  pub each : (m : ℕ) → (has ns m ≡ true) ↔ P m

-- a row with each of these numbers behind it
abbrev pub with_each : List ℕ → List ℕ → List (List ℕ)
with_each row ns = map (λ n. row ++ n ∷ []) ns
