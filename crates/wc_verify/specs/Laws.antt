-- Laws of what is found of a world.
use Rattle.std.specs.Prelude.{◌≡◌, ℕ, Option, Some}
use Rattle.wc_world.specs.World.{World}
use Rattle.wc_machine.specs.Created.{IsCreatedByInputs}
use Rattle.wc_machine.specs.Sound.{IsSound}
use Rattle.wc_verify.specs.Faults.{IsLeastDisagreement, IsLeastOnCycle, IsLowestWrong}

-- Two answers to the same question are equal.
pub record FoundFaultsAreOne : Type 0 where
  pub cycles : (w : World) (n m : ℕ) → IsLeastOnCycle w.links (Some n) → IsLeastOnCycle w.links (Some m) → n ≡ m
  pub values : (w : World) (n m : ℕ) → IsLowestWrong w (Some n) → IsLowestWrong w (Some m) → n ≡ m
  pub right : (w : World) (n : ℕ) → IsCreatedByInputs w → IsLowestWrong w (Some n) → ⊥
  pub results : (w : World) (p q : Option (ℕ × ℕ)) → IsLeastDisagreement w p → IsLeastDisagreement w q → p ≡ q

-- A sound world has neither a cycle nor a wrong calculation.
pub record SoundWorldsHaveNoFault : Type 0 where
  pub cycles : (w : World) → IsSound w → (n : ℕ) → IsLeastOnCycle w.links (Some n) → ⊥
  pub values : (w : World) → IsSound w → (n : ℕ) → IsLowestWrong w (Some n) → ⊥
