-- A step of a store: what a call on it keeps, and what it leaves of it on its two disks.
use Rattle.std.specs.Prelude.{◌≡◌, ◌⊎◌, ◌≤◌, ◌+◌, ℕ, Bool, true, false, List, length, IsTrue}
use Rattle.wc_io.specs.Counts.{EitherFailedLast}
use Rattle.wc_disk.specs.declared.disk.Disk as disk
use Rattle.wc_disk.specs.Images.{LeavesOnly}
use Rattle.wc_journal.specs.declared.journal.Journal.{Journal}
use Rattle.wc_state.specs.declared.record.Limits.{Limits}
use Rattle.wc_world.specs.declared.change.Change.{Change}
use Rattle.wc_world.specs.World.{World}
use Rattle.wc_world.specs.Applied.{applied}
use Rattle.wc_store.specs.declared.place.Place.{Place}
use Rattle.wc_store.specs.declared.store.Store.{Store}
use Rattle.wc_store.specs.Places.{its, opposite}
use Rattle.wc_store.specs.Prepared.{HasGeneration}
use Rattle.wc_store.specs.Stores.{other, HoldsBy, IsLonger, LeadsTo, PacksTo, StandsFor}

-- ---- what images hold

-- The image, beside that of the other disk, holds a world, by a journal on its own disk, of which P holds.
abbrev pub HoldsSome : Place → (World → Journal → Type 0) → List ℕ → List ℕ → Type 0
HoldsSome place P rest own = (v : World) × (journal : Journal) × P v journal × HoldsBy place own rest v journal

-- The disk that the store is on is written alone, and each of its images holds a world, by a journal, of which P holds.
pub record LeavesHeld {D : Type 0} (g : disk.Ghosts D) (place : Place) (P : World → Journal → Type 0) (one two one_new two_new : D) : Type 0 where
  pub untouched : other place one_new two_new ≡ other place one two
  pub each : LeavesOnly g (its place one two) (its place one_new two_new) (HoldsSome place P (g.seen (other place one two)))

-- each image that a crash now may leave of the disk that the store is on holds a world, by a journal, of which P holds
abbrev pub LeavesNow : {D : Type 0} → disk.Ghosts D → Place → (World → Journal → Type 0) → (one two : D) → Type 0
LeavesNow g place P one two = (image : List ℕ) → g.may_leave (its place one two) image → HoldsSome place P (g.seen (other place one two)) image

-- this holds of the world, whatever its journal
abbrev pub of_world : (World → Type 0) → World → Journal → Type 0
of_world P v journal = P v

-- P holds of a world by a journal that has the version and the generation of this one.
pub record InGeneration (before : Journal) (P : World → Journal → Type 0) (v : World) (journal : Journal) : Type 0 where
  pub holds : P v journal
  pub version : journal.version ≡ before.version
  pub generation : journal.generation ≡ before.generation

-- ---- what is counted

-- No disk failed, and both counts of faults are as they were; or the count of one rose by one, its last call failed, and the other is as it was.
abbrev pub CountsFaults : (whole : Bool) → (one one' two two' : ℕ) → (failed_one failed_two : Type 0) → Type 0
CountsFaults true one one' two two' failed_one failed_two = (one' ≡ one) × (two' ≡ two)
CountsFaults false one one' two two' failed_one failed_two = EitherFailedLast one one' two two' failed_one failed_two

-- ---- a call, and a step

-- What each call on a store keeps: the store is live where no disk failed, and then it stands for its disks, nothing being pending on them;
-- whether these tell their bytes stays, and their counts tell a fault.
pub record Called {D : Type 0} (g : disk.Ghosts D) (whole : Bool) (one two : D) (new : Store) (one_new two_new : D) : Type 0 where
  pub live : new.live ≡ whole
  pub stands : whole ≡ true → IsTrue (g.tells one) → IsTrue (g.tells two) → StandsFor g new one_new two_new
  pub tells_one : g.tells one_new ≡ g.tells one
  pub tells_two : g.tells two_new ≡ g.tells two
  pub counts : CountsFaults whole (g.faults one) (g.faults one_new) (g.faults two) (g.faults two_new) (g.failed one_new) (g.failed two_new)

-- A step by which P holds of what the store comes to. It writes the disk that the store is on alone; each image that a crash leaves of that,
-- from before it to now, holds a world of which P holds; so does the store. Its journal stays at its place, in its version and generation. Whatever two
-- images held the store, some two hold the one that is left.
pub record Stepped {D : Type 0} (g : disk.Ghosts D) (P : World → Journal → Type 0) (whole : Bool) (old : Store) (one two : D)
    (new : Store) (one_new two_new : D) : Type 0 where
  pub call : Called g whole one two new one_new two_new
  pub place : new.place ≡ old.place
  pub comes : InGeneration old.journal P new.world.world new.journal
  pub images : LeadsTo old new
  pub moments : IsTrue (g.tells one) → IsTrue (g.tells two) → LeavesHeld g old.place (InGeneration old.journal P) one two one_new two_new

-- ---- a commit

-- the world is the store's, and its journal ends where the store's does
abbrev pub IsAsBefore : Store → World → Journal → Type 0
IsAsBefore store v journal = (v ≡ store.world.world) × (journal.end ≡ store.journal.end)

-- The changes are applied, and the journal has them as one batch more, within the limits of nodes and of bytes.
pub record IsCommitted (limits : Limits) (cs : List Change) (store : Store) (v : World) (journal : Journal) : Type 0 where
  pub world : v ≡ applied store.world.world cs
  pub nodes : length v.nodes ≤ limits.max_nodes
  pub longer : IsLonger limits store.journal cs journal

-- the one or the other
abbrev pub IsOrCommitted : Limits → List Change → Store → World → Journal → Type 0
IsOrCommitted limits cs store v journal = IsAsBefore store v journal ⊎ IsCommitted limits cs store v journal

-- ---- a pack

-- The store has moved to the other disk, in the next generation and in version 2, for which there was room; whatever two images held it, a pack makes two
-- of them that hold it there.
pub record IsPacked (old new : Store) (generation : ℕ) : Type 0 where
  pub next : generation ≡ old.journal.generation + 1
  pub is : new.journal.generation ≡ generation
  pub version : new.journal.version ≡ 2
  pub place : new.place ≡ opposite old.place
  pub room : HasGeneration old.journal.generation old.world.world
  pub images : PacksTo old new
