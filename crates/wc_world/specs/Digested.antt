-- The digests of a world, which may not be made.
use Rattle.std.specs.Prelude.{ℕ, Bool, true, false, List, Option}
use Rattle.wc_keys.specs.declared.entries.Sealed.{Sealed}
use Rattle.wc_keys.specs.Order.{AreSealsOf}
use Rattle.wc_world.specs.World.{World}
use Rattle.wc_world.specs.Keys.{digest_at}

-- where they are made, the entries are those of the processes that have a digest
abbrev pub AreMadeOf : Bool → (ℕ → Option (List ℕ)) → List Sealed → Type 0
AreMadeOf false digests seals = Unit {0}
AreMadeOf true digests seals = AreSealsOf digests seals

-- where they are made, the entries are those of the calculations of a world that have finished
abbrev pub AreMade : Bool → World → List Sealed → Type 0
AreMade digested w seals = AreMadeOf digested (digest_at w) seals
