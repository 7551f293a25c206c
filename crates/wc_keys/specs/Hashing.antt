-- Messages that are hashed as their parts come.
use Rattle.std.specs.Prelude.{ℕ, List, ◌++◌}
use Rattle.sha2.specs.declared.Sha256.{Sha256}
use Rattle.sha2.specs.Hashers.{Holds256}

-- The hasher has taken up these bytes, behind whatever message it held.
pub record Adds (old : Sha256) (bytes : List ℕ) (new : Sha256) : Type 0 where
  pub holds : (message : List ℕ) → Holds256 old message → Holds256 new (message ++ bytes)
