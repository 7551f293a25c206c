-- What a drill leaves on its disks.
use Rattle.std.specs.Prelude.{◌≡◌, ◌⊎◌, ℕ, IsTrue, List, Result, Ok, Err}
use Rattle.wc_disk.specs.declared.disk.Disk as disk
use Rattle.wc_disk.specs.Steps.{Only}
use Rattle.wc_journal.specs.Reading.{Placed, end_of}
use Rattle.wc_journal.specs.declared.journal.Journal.{Journal}
use Rattle.wc_world.specs.World.{World}
use Rattle.wc_store.specs.Choices.{chosen, on}
use Rattle.wc_store.specs.Held.{IsHeld, nothing, a_world}
use Rattle.wc_store.specs.Places.{number_of}
use Rattle.wc_store.specs.Stepped.{HoldsSome}
use Rattle.wc_store.specs.Stores.{InOnePart, InTwoParts, AreImages, HoldsBy, IsOfImages}
use Rattle.wc_store.specs.declared.place.Place.TheVariants.{One}
use Rattle.wc_store.specs.declared.store.Store.{Store}
use Rattle.wc_drill.specs.declared.error.DrillError.{DrillError}
use Rattle.wc_drill.specs.declared.error.DrillError.TheVariants.{DiskFault, Damaged, Full, AlreadyThere, OutOfMemory}
use Rattle.wc_drill.specs.Drilled.{DrillsBy}

-- An image of disk one, beside one of disk two, is one of a drill: where the disks held nothing, the two hold nothing, or what the drill makes, by its
-- journal on disk one.
pub record IsOfDrill (seed count : ℕ) (one two image rest : List ℕ) : Type 0 where
  pub before : IsHeld one two nothing
  pub held : IsHeld image rest nothing ⊎ ((v : World) × (journal : Journal) × DrillsBy seed count v journal × HoldsBy One image rest v journal)

-- the image is one that a crash at entry might have left, or one of the drill beside each image that disk two may leave in the end
abbrev pub DrilledBeside : {D : Type 0} → disk.Ghosts D → (seed count : ℕ) → (one two two_new : D) → List ℕ → Type 0
DrilledBeside g seed count one two two_new image =
    g.may_leave one image ⊎ ((rest : List ℕ) → g.may_leave two_new rest → IsOfDrill seed count (g.seen one) (g.seen two) image rest)

-- Nothing is pending on either disk.
pub record AreDurable {D : Type 0} (g : disk.Ghosts D) (one two : D) : Type 0 where
  pub durable_one : Only (g.seen one) (g.may_leave one)
  pub durable_two : Only (g.seen two) (g.may_leave two)

-- Nothing is pending on either disk, and what they read as holds what the drill has made, by its journal on disk one.
pub record StaysDrilled {D : Type 0} (g : disk.Ghosts D) (seed count : ℕ) (one two : D) : Type 0 where
  pub durable : AreDurable g one two
  pub held : HoldsSome One (DrillsBy seed count) (g.seen two) (g.seen one)

-- The store is on disk one, and kept by a journal of generation 1 and version 2.
abbrev pub IsOnDiskOne : Store → Type 0
IsOnDiskOne store = (store.place ≡ One) × (store.journal.generation ≡ 1) × (store.journal.version ≡ 2)

-- The two images hold this world, by this journal on disk one, which is of generation 1 and version 2.
pub record HoldsOnOne (one two : List ℕ) (w : World) (journal : Journal) : Type 0 where
  pub held : IsHeld one two (a_world w)
  pub batches : Placed
  pub chooses : chosen one two ≡ on (number_of One) journal.version journal.generation batches
  pub end : journal.end ≡ end_of batches
  pub generation : journal.generation ≡ 1
  pub version : journal.version ≡ 2

-- The disks read as two images that hold this world so, where they tell their bytes; and whatever two images hold the store, with some image of
-- disk one they do.
pub record IsHeldAfter {D : Type 0} (g : disk.Ghosts D) (told : Type 0) (store : Store) (one_new two_new : D) (w : World) (journal : Journal) : Type 0 where
  pub seen : told → HoldsOnOne (g.seen one_new) (g.seen two_new) w journal
  pub beside : (one two : List ℕ) → IsOfImages store one two → (made : List ℕ) × HoldsOnOne made two w journal

-- Two images hold nothing, and with some image of disk one they hold this world so: those that the disks read as at entry and at exit, where
-- they tell their bytes.
pub record IsFilled {D : Type 0} (g : disk.Ghosts D) (one two one_new two_new : D) (w : World) (journal : Journal) : Type 0 where
  pub first : List ℕ
  pub second : List ℕ
  pub made : List ℕ
  pub told : IsTrue (g.tells one) → IsTrue (g.tells two) → (first ≡ g.seen one) × (second ≡ g.seen two)
  pub told_new : IsTrue (g.tells one) → IsTrue (g.tells two) → (made ≡ g.seen one_new) × (second ≡ g.seen two_new)
  pub bare : IsHeld first second nothing
  pub holds : HoldsOnOne made second w journal

-- a store was made
abbrev pub IsBegun : {T : Type 0} → Result T DrillError → Type 0
IsBegun (Ok answer) = Unit {0}
IsBegun (Err DiskFault) = ⊥
IsBegun (Err (Damaged number at found)) = ⊥
IsBegun (Err (Full what count limit)) = Unit {0}
IsBegun (Err AlreadyThere) = ⊥
IsBegun (Err OutOfMemory) = ⊥

-- no disk failed
abbrev pub IsUnfailed : {T : Type 0} → Result T DrillError → Type 0
IsUnfailed (Err DiskFault) = ⊥
IsUnfailed _ = Unit {0}

-- what a drill leaves that wasn't begun, since there is a store, or damage; and where memory ran out: nothing was written, or what was committed stays,
-- nothing being pending on either disk, which hold what the drill has made
abbrev pub RefusedLeaves : {D T : Type 0} → disk.Ghosts D → (seed count : ℕ) → Result T DrillError → (one two one_new two_new : D) → Type 0
RefusedLeaves g seed count (Err (Damaged number at found)) one two one_new two_new = InOnePart g one two one_new two_new × (g.seen one_new ≡ g.seen one)
RefusedLeaves g seed count (Err AlreadyThere) one two one_new two_new =
    InTwoParts g one two one_new two_new (AreImages (g.seen one) (g.seen two)) × (g.seen one_new ≡ g.seen one)
RefusedLeaves g seed count (Err OutOfMemory) one two one_new two_new =
    (InOnePart g one two one_new two_new × (g.seen one_new ≡ g.seen one)) ⊎ StaysDrilled g seed count one_new two_new
RefusedLeaves g seed count _ one two one_new two_new = Unit {0}
