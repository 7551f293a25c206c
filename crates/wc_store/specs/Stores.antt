-- When a store stands for two disks, and what its calls leave on them.
use Rattle.std.specs.Prelude.{◌≡◌, ◌≤◌, ◌+◌, ◌⊎◌, ◌++◌, ℕ, true, List, [], ◌∷◌, length, Option, Some, None, Result, Ok, Err}
use Rattle.wc_disk.specs.declared.disk.Disk as disk
use Rattle.wc_disk.specs.Steps.{Only}
use Rattle.wc_disk.specs.Images.{LeavesOnly}
use Rattle.wc_journal.specs.declared.journal.Journal.{Journal}
use Rattle.wc_journal.specs.Reading.{Placed, journal_of, batches_of, end_of}
use Rattle.wc_journal.specs.Journals.{IsSettled}
use Rattle.wc_journal.specs.Spelled as journal
use Rattle.wc_record.specs.Spelled.{spelled}
use Rattle.wc_store.specs.declared.error.StoreError.{StoreError}
use Rattle.wc_store.specs.declared.error.StoreError.TheVariants.{DiskFault, Damaged, Full, AlreadyThere, OutOfMemory}
use Rattle.wc_store.specs.declared.store.Store.{Store}
use Rattle.wc_store.specs.declared.place.Place.{Place}
use Rattle.wc_store.specs.declared.place.Place.TheVariants as place
use Rattle.wc_store.specs.Prepared.{HasGeneration}
use Rattle.wc_state.specs.declared.record.Limits.{Limits}
use Rattle.wc_world.specs.World.{World, empty}
use Rattle.wc_world.specs.Applied.{applied}
use Rattle.wc_world.specs.Snapshot.{snapshot}
use Rattle.wc_world.specs.declared.change.Change.{Change}
use Rattle.wc_store.specs.Places.{number_of, its, opposite}
use Rattle.wc_store.specs.Choices.{Choice, on, chosen}
use Rattle.wc_store.specs.Held.{IsHeld, Standing, nothing, a_world}
use Rattle.wc_store.specs.Refusals.{byte_limit, committed_bytes}

-- the other disk than the one at the place, of disk one and disk two
abbrev pub other : {T : Type 0} → Place → T → T → T
other place.One one two = two
other place.Two one two = one

-- the images of the disk that the store is on and of the other disk, as those of disk one and disk two
abbrev pub HoldsAs : Place → List ℕ → List ℕ → Standing → Type 0
HoldsAs place.One own rest s = IsHeld own rest s
HoldsAs place.Two own rest s = IsHeld rest own s

-- Nothing is pending on either disk, what they read as holds the store's world, and its journal stands for the disk that it is on.
pub record StandsFor {D : Type 0} (g : disk.Ghosts D) (store : Store) (one two : D) : Type 0 where
  pub durable_one : Only (g.seen one) (g.may_leave one)
  pub durable_two : Only (g.seen two) (g.may_leave two)
  pub chooses : chosen (g.seen one) (g.seen two)
      ≡ on (number_of store.place) store.journal.version store.journal.generation (batches_of (journal_of (g.seen (its store.place one two))))
  pub held : IsHeld (g.seen one) (g.seen two) (a_world store.world.world)
  pub settled : IsSettled g store.journal (its store.place one two)

-- The two images hold the store's world, by its journal at its place.
pub record IsOfImages (store : Store) (one two : List ℕ) : Type 0 where
  pub batches : Placed
  pub chooses : chosen one two ≡ on (number_of store.place) store.journal.version store.journal.generation batches
  pub held : IsHeld one two (a_world store.world.world)
  pub end : store.journal.end ≡ end_of batches

-- some two images hold the store's world, by its journal
abbrev pub HasImages : Store → Type 0
HasImages store = (one : List ℕ) × (two : List ℕ) × IsOfImages store one two

-- Two images hold the new store, of which the one of the disk that the old store isn't on is as it was.
pub record HoldsNext (store new : Store) (one two : List ℕ) : Type 0 where
  pub one_new : List ℕ
  pub two_new : List ℕ
  pub rest : other store.place one_new two_new ≡ other store.place one two
  pub are : IsOfImages new one_new two_new

-- whatever two images hold the one store, they lead to two that hold the other
abbrev pub LeadsTo : Store → Store → Type 0
LeadsTo store new = (one two : List ℕ) → IsOfImages store one two → HoldsNext store new one two

-- the choice between the same images
abbrev pub ChoosesAs : Place → List ℕ → List ℕ → Choice → Type 0
ChoosesAs place.One own rest c = chosen own rest ≡ c
ChoosesAs place.Two own rest c = chosen rest own ≡ c

-- The image, beside that of the other disk, holds this world, by this journal on its own disk.
pub record HoldsBy (place : Place) (own rest : List ℕ) (w : World) (journal : Journal) : Type 0 where
  pub held : HoldsAs place own rest (a_world w)
  pub batches : Placed
  pub chooses : ChoosesAs place own rest (on (number_of place) journal.version journal.generation batches)
  pub end : journal.end ≡ end_of batches

-- One journal is another with these changes as one batch more, and is within the limit of bytes.
pub record IsLonger (limits : Limits) (journal : Journal) (cs : List Change) (next : Journal) : Type 0 where
  pub version : next.version ≡ journal.version
  pub generation : next.generation ≡ journal.generation
  pub longer : next.end + 1 ≡ committed_bytes journal cs
  pub fits : next.end + 1 ≤ byte_limit next.version limits.max_bytes

-- The image, beside that of the other disk, holds the store's world by its journal, or the world after the changes by the longer journal.
abbrev pub HoldsEither : Store → Limits → List Change → List ℕ → List ℕ → Type 0
HoldsEither store limits cs rest own =
    HoldsBy store.place own rest store.world.world store.journal
    ⊎ ((next : Journal) × IsLonger limits store.journal cs next × HoldsBy store.place own rest (applied store.world.world cs) next)

-- A commit writes the disk that the store is on alone, and each of its images holds the world before or the world after, each by its journal.
pub record CommitLeaves {D : Type 0} (g : disk.Ghosts D) (store : Store) (limits : Limits) (cs : List Change) (one two one_new two_new : D) : Type 0 where
  pub untouched : other store.place one_new two_new ≡ other store.place one two
  pub each : LeavesOnly g (its store.place one two) (its store.place one_new two_new) (HoldsEither store limits cs (g.seen (other store.place one two)))

-- One journal is the next one of another: of version 2 and the next generation, with the world's snapshot as its only batch, for which there was room.
pub record IsNextOf (journal : Journal) (w : World) (next : Journal) : Type 0 where
  pub version : next.version ≡ 2
  pub generation : next.generation ≡ journal.generation + 1
  pub end : next.end ≡ 26 + length (spelled (snapshot w))
  pub room : HasGeneration journal.generation w

-- The image of the other disk, beside that of the disk that the store is on, leaves the store's world where it is, by the store's journal, or holds it
-- itself, by the next journal.
abbrev pub HoldsPacked : Store → (own image : List ℕ) → Type 0
HoldsPacked store own image =
    HoldsBy store.place own image store.world.world store.journal
    ⊎ ((next : Journal) × IsNextOf store.journal store.world.world next × HoldsBy (opposite store.place) image own store.world.world next)

-- A pack writes the other disk alone, and each of its images holds the same world, each by its journal.
pub record PackLeaves {D : Type 0} (g : disk.Ghosts D) (store : Store) (one two one_new two_new : D) : Type 0 where
  pub untouched : its store.place one_new two_new ≡ its store.place one two
  pub each : LeavesOnly g (other store.place one two) (other store.place one_new two_new) (HoldsPacked store (g.seen (its store.place one two)))

-- the bytes of a disk that was packed: a journal of this generation with the world's snapshot alone, a gate that is not open, and nothing behind it
abbrev pub packed_image : ℕ → World → List ℕ
packed_image generation world = journal.spelled 2 generation (spelled (snapshot world) ∷ []) ++ 0 ∷ []

-- Two images hold the new store: that of the disk that the old store is on is as it was, and the other one is the packed image of the old store's world.
pub record IsPackedTo (store new : Store) (one two : List ℕ) : Type 0 where
  pub one_new : List ℕ
  pub two_new : List ℕ
  pub still : its store.place one_new two_new ≡ its store.place one two
  pub written : other store.place one_new two_new ≡ packed_image (store.journal.generation + 1) store.world.world
  pub are : IsOfImages new one_new two_new

-- whatever two images hold the one store, a pack makes two of them that hold the other
abbrev pub PacksTo : Store → Store → Type 0
PacksTo store new = (one two : List ℕ) → IsOfImages store one two → IsPackedTo store new one two

-- the two images hold nothing, and with some image of disk one they hold the store
abbrev pub IsMadeOf : Store → (one two : List ℕ) → Type 0
IsMadeOf store one two = IsHeld one two nothing × ((made : List ℕ) × IsOfImages store made two)

-- what was loaded is what the disks hold
abbrev pub Loads : {D : Type 0} → disk.Ghosts D → Option Store → D → D → Type 0
Loads g None one two = IsHeld (g.seen one) (g.seen two) nothing
Loads g (Some store) one two = StandsFor g store one two

-- what was loaded is what the two images hold: nothing, or the store's world by its journal
abbrev pub IsLoadedOf : Option Store → (one two : List ℕ) → Type 0
IsLoadedOf None one two = IsHeld one two nothing
IsLoadedOf (Some store) one two = IsOfImages store one two

-- ---- a call in two parts

-- A call that only reads the disks: each image is one that a crash at entry might have left.
pub record InOnePart {D : Type 0} (g : disk.Ghosts D) (one two one_new two_new : D) : Type 0 where
  pub only_one : LeavesOnly g one one_new (g.may_leave one)
  pub only_two : LeavesOnly g two two_new (g.may_leave two)

-- A call in two parts. Up to the middle each image is one that a crash at entry might have left; from then on each pair of images is
-- as P says. Each disk has a clock of its own, so the middle is a moment of each.
pub record InTwoParts {D : Type 0} (g : disk.Ghosts D) (one two one_new two_new : D) (P : List ℕ → List ℕ → Type 0) : Type 0 where
  pub one_between : D
  pub two_between : D
  pub first_one : LeavesOnly g one one_between (g.may_leave one)
  pub first_two : LeavesOnly g two two_between (g.may_leave two)
  pub later_one : g.moment one_between ≤ g.moment one_new
  pub later_two : g.moment two_between ≤ g.moment two_new
  pub pairs : (a b : List ℕ) → g.left_since one_new (g.moment one_between) a → g.left_since two_new (g.moment two_between) b → P a b
  -- an image since an earlier moment is one from before the middle, or is as P says beside each image of the other disk from then on
  pub since_one : (t : ℕ) (a : List ℕ) → t ≤ g.moment one_between → g.left_since one_new t a
      → g.left_since one_between t a ⊎ ((b : List ℕ) → g.left_since two_new (g.moment two_between) b → P a b)
  pub since_two : (t : ℕ) (b : List ℕ) → t ≤ g.moment two_between → g.left_since two_new t b
      → g.left_since two_between t b ⊎ ((a : List ℕ) → g.left_since one_new (g.moment one_between) a → P a b)

-- the images are these two
abbrev pub AreImages : (one two a b : List ℕ) → Type 0
AreImages one two a b = (a ≡ one) × (b ≡ two)

-- the images hold the one world or the other
abbrev pub HoldsOneOf : World → World → List ℕ → List ℕ → Type 0
HoldsOneOf before after a b = IsHeld a b (a_world before) ⊎ IsHeld a b (a_world after)

-- The journal of a store that is made: of version 2 and generation 1, with no batch.
pub record IsFirst (journal : Journal) : Type 0 where
  pub version : journal.version ≡ 2
  pub generation : journal.generation ≡ 1
  pub end : journal.end ≡ 16

-- A store that is made: it is live, its world is the empty one, and it is on disk one, with the first journal.
pub record IsNew (store : Store) : Type 0 where
  pub live : store.live ≡ true
  pub empty_yet : store.world.world ≡ empty
  pub place : store.place ≡ place.One
  pub first : IsFirst store.journal

-- What comes of two images that hold nothing where a store is made: images that hold nothing, or the empty world, by the first journal on disk one.
pub record BeginsFrom (one two a b : List ℕ) : Type 0 where
  pub before : IsHeld one two nothing
  pub held : IsHeld a b nothing ⊎ ((journal : Journal) × IsFirst journal × HoldsBy place.One a b empty journal)

-- `init` has a second part where it makes a store, also where the disk fails then. Where a store is there, the images from the middle
-- on are what the disks read as.
abbrev pub InitLeaves : {D : Type 0} → disk.Ghosts D → Result Store StoreError → (one two one_new two_new : D) → Type 0
InitLeaves g (Ok store) one two one_new two_new = InTwoParts g one two one_new two_new (BeginsFrom (g.seen one) (g.seen two))
InitLeaves g (Err DiskFault) one two one_new two_new =
    InOnePart g one two one_new two_new ⊎ InTwoParts g one two one_new two_new (BeginsFrom (g.seen one) (g.seen two))
InitLeaves g (Err (Damaged disk at found)) one two one_new two_new = InOnePart g one two one_new two_new
InitLeaves g (Err (Full what count limit)) one two one_new two_new = InOnePart g one two one_new two_new
InitLeaves g (Err AlreadyThere) one two one_new two_new = InTwoParts g one two one_new two_new (AreImages (g.seen one) (g.seen two))
InitLeaves g (Err OutOfMemory) one two one_new two_new = InOnePart g one two one_new two_new
