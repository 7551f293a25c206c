-- What all the images of a run of calls have.
use Rattle.std.specs.Prelude.{◌≤◌, ◌⊎◌, ℕ, List}
use Rattle.wc_disk.specs.declared.disk.Disk as disk

-- A crash at any moment from `old` to `new` leaves an image that has P.
pub record LeavesOnly {D : Type 0} (g : disk.Ghosts D) (old new : D) (P : List ℕ → Type 0) : Type 0 where
  pub later : g.moment old ≤ g.moment new
  pub each : (image : List ℕ) → g.left_since new (g.moment old) image → P image
  -- for a run that began earlier
  pub before : (t : ℕ) (image : List ℕ) → t ≤ g.moment old → g.left_since new t image → g.left_since old t image ⊎ P image
