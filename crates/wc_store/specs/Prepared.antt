-- What is made ready before a store calls its disks.
use Rattle.std.specs.Prelude.{◌≡◌, ◌≤◌, ℕ, Bool, List, length}
use Rattle.wc_journal.specs.declared.batch.Batch.{Batch}
use Rattle.wc_journal.specs.declared.journal.Journal.{Journal}
use Rattle.wc_journal.specs.Batches.{payload_of}
use Rattle.wc_record.specs.Spelled.{spelled}
use Rattle.wc_record.specs.Written.{IsWritten}
use Rattle.wc_state.specs.declared.record.Limits.{Limits}
use Rattle.wc_world.specs.declared.change.Change.{Change}
use Rattle.wc_world.specs.World.{World}
use Rattle.wc_world.specs.Snapshot.{snapshot}
use Rattle.wc_store.specs.declared.error.StoreError.{StoreError}
use Rattle.wc_store.specs.declared.error.StoreError.TheVariants.{DiskFault, Damaged, Full, AlreadyThere, OutOfMemory}
use Rattle.wc_store.specs.Refusals.{RefusesCommit, RefusesPack}

-- the batch of these changes, which can be read back
pub record IsBatchOf (version : ℕ) (is_snapshot : Bool) (cs : List Change) (batch : Batch) : Type 0 where
  pub version_is : batch.version ≡ version
  pub snapshot_is : batch.snapshot ≡ is_snapshot
  pub payload : payload_of batch ≡ spelled cs
  pub written : IsWritten cs

-- what a commit refuses before it calls a disk
abbrev pub RefusesChanges : Journal → Limits → World → List Change → StoreError → Type 0
RefusesChanges journal limits w cs DiskFault = ⊥
RefusesChanges journal limits w cs (Damaged disk at found) = ⊥
RefusesChanges journal limits w cs (Full what count limit) = RefusesCommit journal limits w cs (Full what count limit)
RefusesChanges journal limits w cs AlreadyThere = ⊥
RefusesChanges journal limits w cs OutOfMemory = Unit {0}

-- what a pack refuses before it calls a disk
abbrev pub RefusesSnapshot : ℕ → World → StoreError → Type 0
RefusesSnapshot generation w DiskFault = ⊥
RefusesSnapshot generation w (Damaged disk at found) = ⊥
RefusesSnapshot generation w (Full what count limit) = RefusesPack generation w (Full what count limit)
RefusesSnapshot generation w AlreadyThere = ⊥
RefusesSnapshot generation w OutOfMemory = Unit {0}

-- the snapshot fits a batch, and there is a generation for it
pub record HasGeneration (generation : ℕ) (w : World) : Type 0 where
  pub few : generation ≤ 4000000000
  pub short : length (spelled (snapshot w)) ≤ 2147483648
