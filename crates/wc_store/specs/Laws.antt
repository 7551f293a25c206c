-- Laws of what two images hold.
use Rattle.std.specs.Prelude.{◌≡◌, ℕ, List}
use Rattle.wc_world.specs.World.{World}
use Rattle.wc_world.specs.Accepted.{IsReached}
use Rattle.wc_store.specs.Held.{Standing, a_world, IsHeld}

-- Two images hold one thing.
abbrev pub HeldIsOne : Type 0
HeldIsOne = (one two : List ℕ) (s t : Standing) → IsHeld one two s → IsHeld one two t → s ≡ t

-- A world that two images hold is what accepted changes made of the empty one.
abbrev pub HeldIsReached : Type 0
HeldIsReached = (one two : List ℕ) (w : World) → IsHeld one two (a_world w) → IsReached w
