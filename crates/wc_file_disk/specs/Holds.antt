-- What a file held at each of its calls, by what they answered.
use Rattle.std.specs.Prelude.{◌≡◌, ◌≤◌, ◌+◌, ℕ, List, [], ◌∷◌, length, take, drop}
use Rattle.wc_disk.specs.Steps.{overwritten, Torn, Cut as CutShort}
use Rattle.wc_file_disk.specs.Calls.{FileCall}
use Rattle.wc_file_disk.specs.Calls.FileCall.{opened, missing, created, apart, named, locked, closed, measured, read, wrote, failed_to_write, cut, failed_to_cut, synced}

-- a file that held `old` answered so, and holds `new`
abbrev pub Answers : FileCall → List ℕ → List ℕ → Type 0
Answers missing old new = (old ≡ []) × (new ≡ old)
Answers (measured n) old new = (n ≡ length old) × (new ≡ old)
Answers (read at bytes) old new = (bytes ≡ take (length bytes) (drop at old)) × (new ≡ old)
Answers (wrote at bytes) old new = new ≡ overwritten at bytes old
Answers (failed_to_write at bytes) old new = Torn at (length bytes) (length old) old new
Answers (cut n) old new = new ≡ take n old
Answers (failed_to_cut n) old new = CutShort n old new
Answers _ old new = new ≡ old

-- A history of contents, one for each count of calls, agrees with all that was answered: the system's answers were those of one
-- file that nothing else writes.
abbrev pub Agrees : (ℕ → List ℕ) → List FileCall → Type 0
Agrees contents [] = Unit {0}
Agrees contents (call ∷ earlier) = Answers call (contents (length earlier)) (contents (length (call ∷ earlier))) × Agrees contents earlier

-- Some calls were made, and in each history that agrees with all up to these the file's content before and after them is so related.
pub record Between (old new : List FileCall) (R : List ℕ → List ℕ → Type 0) : Type 0 where
  pub related : (contents : ℕ → List ℕ) → Agrees contents new → R (contents (length old)) (contents (length new))
  pub grown : (contents : ℕ → List ℕ) → Agrees contents new → Agrees contents old

-- some calls left the content
abbrev pub Keeps : (old new : List FileCall) → Type 0
Keeps old new = Between old new (λ before after. after ≡ before)
