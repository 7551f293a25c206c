-- Why a turn on a store, or a run, breaks off, and what is counted.
use Rattle.std.specs.Prelude.{◌≡◌, ◌⊎◌, ℕ, Bool, true, false, List, Result, Ok, Err}
use Rattle.wc_io.specs.Counts.{EitherFailedLast}
use Rattle.wc_journal.specs.declared.journal.Journal.{Journal}
use Rattle.wc_state.specs.declared.record.Limits.{Limits}
use Rattle.wc_world.specs.declared.change.Change.{Change}
use Rattle.wc_world.specs.World.{World}
use Rattle.wc_world.specs.Accepted.{IsAccepted}
use Rattle.wc_world.specs.Applied.{applied}
use Rattle.wc_machine.specs.Refusals.{FullOf, HasRoom}
use Rattle.wc_machine.specs.declared.error.TurnError.TheVariants as turn_error
use Rattle.wc_store.specs.Refusals.{RefusesCommit}
use Rattle.wc_store.specs.declared.error.StoreError.{StoreError}
use Rattle.wc_store.specs.declared.error.StoreError.TheVariants as store_error
use Rattle.wc_store.specs.declared.store.Store.{Store}
use Rattle.wc_runner.specs.Outside.{Outside}
use Rattle.wc_runner.specs.Trips.{IsTurn}
use Rattle.wc_runner.specs.declared.error.RunError.{RunError}
use Rattle.wc_runner.specs.declared.error.RunError.TheVariants.{DiskFault, Full, OutOfMemory}

-- ---- one turn

-- The world takes the changes of the process's turn, and would have neither too many nodes nor too many batches after them, but they can't be
-- committed, for this reason.
pub record RefusesItsCommit (o : Outside) (journal : Journal) (w : World) (pid : ℕ) (e : StoreError) : Type 0 where
  pub changes : List Change
  pub turn : IsTurn o pid w changes
  pub accepted : IsAccepted w changes
  pub room : HasRoom o.limits.max_nodes (applied w changes)
  pub refused : RefusesCommit journal o.limits w changes e

-- The turn of the process is refused as one on the world alone, by its nodes or else its batches, or else its changes can't be committed. Want
-- of memory may come at any time.
abbrev pub RefusesStep : Outside → Journal → World → (pid : ℕ) → RunError → Type 0
RefusesStep o journal w pid DiskFault = RefusesItsCommit o journal w pid store_error.DiskFault
RefusesStep o journal w pid (Full what count limit) =
    FullOf (IsTurn o pid w) o.limits.max_nodes w (turn_error.Full what count limit) ⊎ RefusesItsCommit o journal w pid (store_error.Full what count limit)
RefusesStep o journal w pid OutOfMemory = Unit {0}

-- the turn is refused before any disk is called
abbrev pub RefusesPrepared : Outside → (pid : ℕ) → World → RunError → Type 0
RefusesPrepared o pid w DiskFault = ⊥
RefusesPrepared o pid w (Full what count limit) = FullOf (IsTurn o pid w) o.limits.max_nodes w (turn_error.Full what count limit)
RefusesPrepared o pid w OutOfMemory = Unit {0}

-- the changes can't be committed
abbrev pub RefusesStored : Journal → Limits → World → List Change → RunError → Type 0
RefusesStored journal limits w cs DiskFault = RefusesCommit journal limits w cs store_error.DiskFault
RefusesStored journal limits w cs (Full what count limit) = RefusesCommit journal limits w cs (store_error.Full what count limit)
RefusesStored journal limits w cs OutOfMemory = Unit {0}

-- ---- a run

-- The store is full at the turn of a ready process, by its own journal.
pub record IsFullAt (o : Outside) (store : Store) (e : RunError) : Type 0 where
  pub pid : ℕ
  pub refused : RefusesStep o store.journal store.world.world pid e

-- a run is full at the store that it has come to, and otherwise breaks off for a fault or want of memory alone
abbrev pub RefusesRun : Outside → Store → RunError → Type 0
RefusesRun o store DiskFault = Unit {0}
RefusesRun o store (Full what count limit) = IsFullAt o store (Full what count limit)
RefusesRun o store OutOfMemory = Unit {0}

-- ---- what is counted

-- `DiskFault` comes only where the count of one of the disks rose by one, its last call failed and the other count stayed,
-- and each other answer leaves both counts
abbrev pub Counts : {T : Type 0} → Result T RunError → (one one' two two' : ℕ) → (failed_one failed_two : Type 0) → Type 0
Counts (Ok answer) one one' two two' failed_one failed_two = (one' ≡ one) × (two' ≡ two)
Counts (Err DiskFault) one one' two two' failed_one failed_two = EitherFailedLast one one' two two' failed_one failed_two
Counts (Err (Full what count limit)) one one' two two' failed_one failed_two = (one' ≡ one) × (two' ≡ two)
Counts (Err OutOfMemory) one one' two two' failed_one failed_two = (one' ≡ one) × (two' ≡ two)

-- a disk is as it was where the store was full or memory ran out
abbrev pub IsUnchanged : {T S : Type 0} → Result T RunError → S → S → Type 0
IsUnchanged (Ok answer) old new = Unit {0}
IsUnchanged (Err DiskFault) old new = Unit {0}
IsUnchanged (Err (Full what count limit)) old new = new ≡ old
IsUnchanged (Err OutOfMemory) old new = new ≡ old

-- a store is live but after a DiskFault
abbrev pub is_live_after : {T : Type 0} → Result T RunError → Bool
is_live_after (Ok answer) = true
is_live_after (Err DiskFault) = false
is_live_after (Err (Full what count limit)) = true
is_live_after (Err OutOfMemory) = true
