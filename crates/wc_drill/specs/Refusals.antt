-- Why a drill has no end, and what is counted.
use Rattle.std.specs.Prelude.{◌≡◌, ◌⊎◌, ◌<◌, ℕ, Result, Err}
use Rattle.wc_io.specs.Counts.{EitherFailedLast}
use Rattle.wc_disk.specs.declared.disk.Disk as disk
use Rattle.wc_journal.specs.declared.journal.Journal.{Journal}
use Rattle.wc_world.specs.World.{World, empty}
use Rattle.wc_store.specs.Held.{IsHeld, HoldsAWorld, damage}
use Rattle.wc_store.specs.Sights.{OfImages}
use Rattle.wc_store.specs.declared.store.Store.{Store}
use Rattle.wc_store.specs.declared.error.StoreError.{StoreError}
use Rattle.wc_store.specs.declared.error.StoreError.TheVariants as store_error
use Rattle.wc_ends.specs.Runner.Refusals.{RefusesStep}
use Rattle.wc_ends.specs.Runner.declared.error.RunError.{RunError}
use Rattle.wc_ends.specs.Runner.declared.error.RunError.TheVariants as run
use Rattle.wc_drill.specs.Draws.{first_number, second_number}
use Rattle.wc_drill.specs.declared.error.DrillError.{DrillError}
use Rattle.wc_drill.specs.declared.error.DrillError.TheVariants.{DiskFault, Damaged, Full, AlreadyThere, OutOfMemory}
use Rattle.wc_drill.specs.Drilled.{Submitted, Drills, outside, turns_of}
use Rattle.wc_drill.specs.Leaves.{IsFilled}
use Rattle.wc_drill.specs.Runs.{TakesFewer}
use Rattle.wc_drill.specs.Submissions.{RefusesChain}

-- what a drill tells of what breaks off a run
abbrev pub of_run : RunError → DrillError
of_run run.DiskFault = DiskFault
of_run (run.Full what count limit) = Full what count limit
of_run run.OutOfMemory = OutOfMemory

-- what is told of a store that isn't made; a new one is never full
abbrev pub IsOfInit : StoreError → Type 0
IsOfInit (store_error.Full what count limit) = ⊥
IsOfInit _ = Unit {0}

-- the error of a drill whose `init` failed; that the empty store is too full can't come, and counts as want of memory
abbrev pub of_init : StoreError → DrillError
of_init store_error.DiskFault = DiskFault
of_init (store_error.Damaged number at found) = Damaged number at found
of_init (store_error.Full what count limit) = OutOfMemory
of_init store_error.AlreadyThere = AlreadyThere
of_init store_error.OutOfMemory = OutOfMemory

-- ---- fullness

-- The next of so many chains finds the store full, by its own journal.
pub record IsFullAtChain (seed count : ℕ) (w : World) (store : Store) (e : RunError) : Type 0 where
  pub chain : ℕ
  pub before : chain < count
  pub submitted : Submitted seed chain w store.world.world
  pub refused : RefusesChain (first_number chain seed) (second_number chain seed) store.journal store.world.world e

-- Submissions break off so. Faults and want of memory may come at any time.
abbrev pub RefusesChains : (seed count : ℕ) → World → Store → RunError → Type 0
RefusesChains seed count w store run.DiskFault = Unit {0}
RefusesChains seed count w store (run.Full what many limit) = IsFullAtChain seed count w store (run.Full what many limit)
RefusesChains seed count w store run.OutOfMemory = Unit {0}

-- All chains are submitted, fewer turns and rests are taken than there are, and the turn of a ready process finds the store full.
pub record IsFullAtTurn (seed count : ℕ) (journal : Journal) (w : World) (e : RunError) : Type 0 where
  pub begun : World
  pub submitted : Submitted seed count empty begun
  pub fewer : TakesFewer (turns_of count) begun w
  pub pid : ℕ
  pub refused : RefusesStep outside journal w pid e

-- What the world is too full for: the submission of its next chain, or, once all are submitted, the turn of a ready process.
abbrev pub IsTooFullFor : (seed count : ℕ) → Journal → World → RunError → Type 0
IsTooFullFor seed count journal w e =
    ((chain : ℕ) × (chain < count) × Submitted seed chain empty w × RefusesChain (first_number chain seed) (second_number chain seed) journal w e)
    ⊎ IsFullAtTurn seed count journal w e

-- A world that the drill makes is too full for what comes next, by the journal that keeps it.
pub record IsDrillFull (Holds : World → Journal → Type 0) (seed count : ℕ) (e : RunError) : Type 0 where
  pub world : World
  pub drills : Drills seed count world
  pub journal : Journal
  pub holds : Holds world journal
  pub refused : IsTooFullFor seed count journal world e

-- ---- all of them

-- of a store that was made, with how a world is held by a journal. Faults and want of memory may come at any time.
abbrev pub RefusesDrilled : (Holds : World → Journal → Type 0) → (seed count : ℕ) → DrillError → Type 0
RefusesDrilled Holds seed count DiskFault = Unit {0}
RefusesDrilled Holds seed count (Damaged number at found) = ⊥
RefusesDrilled Holds seed count (Full what many limit) = IsDrillFull Holds seed count (run.Full what many limit)
RefusesDrilled Holds seed count AlreadyThere = ⊥
RefusesDrilled Holds seed count OutOfMemory = Unit {0}

-- Damage is what some two images hold, and a store is there in some two: those that the disks read as, where they tell their bytes. Else
-- it is that of a store that was made; of a fault and of want of memory nothing is said.
abbrev pub RefusesDrill : {D : Type 0} → disk.Ghosts D → (seed count : ℕ) → (one two one_new two_new : D) → DrillError → Type 0
RefusesDrill g seed count one two one_new two_new (Damaged number at found) = OfImages g one two (λ a b. IsHeld a b (damage number at found))
RefusesDrill g seed count one two one_new two_new AlreadyThere = OfImages g one two HoldsAWorld
RefusesDrill g seed count one two one_new two_new e = RefusesDrilled (IsFilled g one two one_new two_new) seed count e

-- `DiskFault` comes only where the count of one of the disks rose by one, its last call failed and the other count stayed,
-- and each other answer leaves both counts
abbrev pub Counts : {T : Type 0} → Result T DrillError → (one one' two two' : ℕ) → (failed_one failed_two : Type 0) → Type 0
Counts (Err DiskFault) one one' two two' failed_one failed_two = EitherFailedLast one one' two two' failed_one failed_two
Counts _ one one' two two' failed_one failed_two = (one' ≡ one) × (two' ≡ two)
