-- What the calls of a journal leave at one of the two disks of a store.
use Rattle.std.specs.Prelude.{◌≡◌, ◌+◌, ◌-◌, ◌^◌, ◌<◌, ◌≤◌, ◌++◌, ℕ, true, List, [], ◌∷◌, length, min, max, Result, IsTrue, IfOk, IfErr, OnOk, OnErr}
use Rattle.wc_disk.specs.declared.disk.Disk as disk
use Rattle.wc_disk.specs.Images.{LeavesOnly}
use Rattle.wc_journal.specs.declared.error.JournalError.{JournalError}
use Rattle.wc_journal.specs.declared.error.JournalError.TheVariants as journal_error
use Rattle.wc_journal.specs.declared.journal.Journal.{Journal}
use Rattle.wc_journal.specs.Reading.{holds, journal_of}
use Rattle.wc_journal.specs.Journals.{IsSettled, StaysWithin, with_batch, HoldsEither, IsReplaced}
use Rattle.wc_journal.specs.Refusals.{size_after}
use Rattle.wc_journal.specs.Spelled.{spelled}
use Rattle.wc_state.specs.declared.record.What.TheVariants as what
use Rattle.wc_store.specs.declared.error.StoreError.{StoreError}
use Rattle.wc_store.specs.declared.error.StoreError.TheVariants.{DiskFault, Damaged, Full, AlreadyThere, OutOfMemory}
use Rattle.wc_store.specs.Refusals.{RefusesLook, CountsOne, IsUnchanged, is_live_after}

-- what is written is refused for no damage
abbrev pub IsOfWriting : JournalError → Type 0
IsOfWriting journal_error.DiskFault = Unit {0}
IsOfWriting (journal_error.Damaged at found) = ⊥
IsOfWriting (journal_error.Full count limit) = Unit {0}
IsOfWriting journal_error.OutOfMemory = Unit {0}

-- a journal's refusal of what is written, as a store tells it
abbrev pub IsToldAs : JournalError → StoreError → Type 0
IsToldAs journal_error.DiskFault told = told ≡ DiskFault
IsToldAs (journal_error.Damaged at found) told = ⊥
IsToldAs (journal_error.Full count limit) told = told ≡ Full what.Bytes count limit
IsToldAs journal_error.OutOfMemory told = told ≡ OutOfMemory

-- the journal would be longer than the limit; only else may the disk have failed
abbrev pub RefusesLength : ℕ → ℕ → StoreError → Type 0
RefusesLength size limit DiskFault = size ≤ limit
RefusesLength size limit (Damaged disk at found) = ⊥
RefusesLength size limit (Full what.Bytes count most) = (count ≡ min size (2 ^ 64 - 1)) × (most ≡ limit) × (limit < size)
RefusesLength size limit (Full what.Nodes count most) = ⊥
RefusesLength size limit (Full what.Batches count most) = ⊥
RefusesLength size limit (Full what.Generations count most) = ⊥
RefusesLength size limit AlreadyThere = ⊥
RefusesLength size limit OutOfMemory = ⊥

-- The disk's journal has one batch more, or a crash leaves it with or without it, or nothing was written.
pub record Appends {D T : Type 0} (g : disk.Ghosts D) (payload : List ℕ) (limit : ℕ) (journal journal_new : Journal) (old new : D) (result : Result T StoreError) : Type 0 where
  pub settled : OnOk result (IsTrue (g.tells old) → IsSettled g journal_new new)
  pub held : OnOk result (IsTrue (g.tells old) → journal_of (g.seen new) ≡ with_batch journal (journal_of (g.seen old)) payload)
  pub any_moment : IsTrue (g.tells old) → LeavesOnly g old new (HoldsEither (journal_of (g.seen old)) (with_batch journal (journal_of (g.seen old)) payload))
  pub no_longer : IsTrue (g.tells old) → StaysWithin g (max (length (g.seen old)) (size_after journal.end journal.version payload)) old new
  pub fits : OnOk result (size_after journal.end journal.version payload ≤ limit)
  pub longer : OnOk result (journal_new.end + 1 ≡ size_after journal.end journal.version payload)
  pub kept : OnErr result (journal_new.end ≡ journal.end)
  pub refused : IfErr result (RefusesLength (size_after journal.end journal.version payload) limit)
  pub untouched : IsUnchanged result old new
  pub still : is_live_after result true ≡ true → IsTrue (g.tells old) → IsSettled g journal_new new
  pub version : journal_new.version ≡ journal.version
  pub generation : journal_new.generation ≡ journal.generation
  pub tells : g.tells new ≡ g.tells old
  pub cause : CountsOne result (g.faults old) (g.faults new) (g.failed new)

-- The disk has the bytes of a journal of this generation with this snapshot and none behind them, or a crash leaves what was there, no journal, or that one.
pub record Replaces {D : Type 0} (g : disk.Ghosts D) (number : ℕ) (payload : List ℕ) (old new : D) (result : Result Journal StoreError) : Type 0 where
  pub version : IfOk result (λ journal. journal.version ≡ 2)
  pub generation : IfOk result (λ journal. journal.generation ≡ number)
  pub end : IfOk result (λ journal. journal.end ≡ 26 + length payload)
  pub settled : IfOk result (λ journal. IsTrue (g.tells old) → IsSettled g journal new)
  pub held : OnOk result (IsTrue (g.tells old) → journal_of (g.seen new) ≡ holds 2 number ((26, payload) ∷ []))
  pub written : OnOk result (IsTrue (g.tells old) → g.seen new ≡ spelled 2 number (payload ∷ []) ++ 0 ∷ [])
  pub any_moment : IsTrue (g.tells old) → LeavesOnly g old new (IsReplaced (g.seen old) (holds 2 number ((26, payload) ∷ [])))
  pub refused : IfErr result RefusesLook
  pub untouched : IsUnchanged result old new
  pub tells : g.tells new ≡ g.tells old
  pub cause : CountsOne result (g.faults old) (g.faults new) (g.failed new)
