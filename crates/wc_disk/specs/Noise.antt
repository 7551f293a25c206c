-- The bytes that the generator scatters over a disk.
use Rattle.std.specs.Prelude.{◌≡◌, ◌⊎◌, ◌++◌, Bool, true, false, ℕ, ◌-◌, List, [], ◌∷◌, length, min}
use Rattle.wc_value.specs.Draws.{noise, after_draws}
use Rattle.wc_disk.specs.declared.calls.Call.{Call}
use Rattle.wc_disk.specs.declared.calls.Call.TheVariants.{Write, Cut, Sync}
use Rattle.wc_disk.specs.Steps.{overwritten}

-- how many bytes of a written range the disk holds
abbrev pub held : ℕ → ℕ → List ℕ → ℕ
held at count bytes = min count (length bytes - at)

-- noise over a written range
abbrev pub scattered : ℕ → ℕ → ℕ × List ℕ → ℕ × List ℕ
scattered at count s = (after_draws (held at count s.1) s.0, overwritten at (noise (held at count s.1) s.0) s.1)

-- noise over each written range, the first one first
abbrev pub noised : List Call → ℕ × List ℕ → ℕ × List ℕ
noised [] s = s
noised (Write at bytes ∷ cs) s = noised cs (scattered at (length bytes) s)
noised (Cut len ∷ cs) s = noised cs s
noised (Sync ∷ cs) s = noised cs s

-- none of the calls is a sync
abbrev pub HasNoSync : List Call → Type 0
HasNoSync [] = Unit {0}
HasNoSync (Write at bytes ∷ cs) = HasNoSync cs
HasNoSync (Cut len ∷ cs) = HasNoSync cs
HasNoSync (Sync ∷ cs) = ⊥

-- whether a call is a sync
abbrev pub is_sync : Call → Bool
is_sync (Write at bytes) = false
is_sync (Cut len) = false
is_sync Sync = true

-- there is no call, or the last one is a sync
abbrev pub EndsInSync : List Call → Type 0
EndsInSync calls = (calls ≡ []) ⊎ ((front : List Call) × (calls ≡ front ++ Sync ∷ []))

-- the calls after the last sync
pub record IsSinceSync (all rest : List Call) : Type 0 where
  pub front : List Call
  pub split : all ≡ front ++ rest
  pub ends : EndsInSync front
  pub none : HasNoSync rest
