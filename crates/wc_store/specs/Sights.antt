-- What one disk is seen to be, and what two disks tell of a store.
use Rattle.std.specs.Prelude.{◌≡◌, ◌≤◌, ◌<◌, ℕ, List, length, Option, Some, None, IsTrue}
use Rattle.wc_disk.specs.declared.disk.Disk as disk
use Rattle.wc_journal.specs.declared.error.Found.{Found}
use Rattle.wc_journal.specs.declared.journal.Loaded.{Loaded}
use Rattle.wc_journal.specs.Reading.{no_journal, holds, damaged}
use Rattle.wc_journal.specs.Journals.{IsJournalOf, IsSettled}
use Rattle.wc_store.specs.declared.place.Place.{Place}
use Rattle.wc_store.specs.declared.choice.Seen.{Seen}
use Rattle.wc_store.specs.declared.choice.Seen.TheVariants.{Bare, Broken, Holding}
use Rattle.wc_store.specs.declared.choice.Verdict.{Verdict}
use Rattle.wc_store.specs.declared.choice.Verdict.TheVariants.{NoStore, On, Damaged}
use Rattle.wc_store.specs.Places.{number_of, its}
use Rattle.wc_store.specs.Choices.{Choice, no_store, broken, on, found_at, journal_in}

-- the image, which is kept with the batches, counts as one that holds this journal and these batches
pub record Keeps (loaded : Loaded) (image : List ℕ) : Type 0 where
  pub kept : loaded.batches.image ≡ image
  pub counts : journal_in image ≡ holds loaded.journal.version loaded.journal.generation loaded.batches.placed
  pub stands : IsJournalOf loaded.journal loaded.batches.placed image

-- the image is longer than an unfinished header and has this first byte, or it is no longer
abbrev pub IsForeign : List ℕ → Option Found → Type 0
IsForeign image None = length image ≤ 17
IsForeign image (Some found) = (17 < length image) × (found ≡ found_at image 0)

-- the image of a disk shows this
abbrev pub Shows : List ℕ → Seen → Type 0
Shows image (Bare foreign) = (journal_in image ≡ no_journal) × IsForeign image foreign
Shows image (Broken at found) = journal_in image ≡ damaged at found
Shows image (Holding loaded) = Keeps loaded image

-- the store is on the disk at this place, whose image is kept and stands for this journal
pub record IsOn (choice : Choice) (image : List ℕ) (place : Place) (loaded : Loaded) : Type 0 where
  pub kept : loaded.batches.image ≡ image
  pub chosen : choice ≡ on (number_of place) loaded.journal.version loaded.journal.generation loaded.batches.placed
  pub stands : IsJournalOf loaded.journal loaded.batches.placed image

-- the verdict tells this choice between the images of disk one and of disk two
abbrev pub Tells : Choice → (one two : List ℕ) → Verdict → Type 0
Tells choice one two NoStore = choice ≡ no_store
Tells choice one two (On place loaded) = IsOn choice (its place one two) place loaded
Tells choice one two (Damaged place at found) = choice ≡ broken (number_of place) at found

-- the verdict tells of a store
abbrev pub IsOfStore : Verdict → Type 0
IsOfStore NoStore = ⊥
IsOfStore (On place loaded) = Unit {0}
IsOfStore (Damaged place at found) = Unit {0}

-- the verdict tells of a store, or this is so
abbrev pub UnlessOfStore : Verdict → Type 0 → Type 0
UnlessOfStore NoStore P = P
UnlessOfStore (On place loaded) P = Unit {0}
UnlessOfStore (Damaged place at found) P = Unit {0}

-- the store is where the choice says, or there is none
abbrev pub Finds : Choice → (one two : List ℕ) → Option (Place × Loaded) → Type 0
Finds choice one two None = choice ≡ no_store
Finds choice one two (Some found) = IsOn choice (its found.0 one two) found.0 found.1

-- the journal that was found stands for its disk
abbrev pub StandsAt : {D : Type 0} → disk.Ghosts D → Option (Place × Loaded) → (one two : D) → Type 0
StandsAt g None one two = Unit {0}
StandsAt g (Some found) one two = IsSettled g found.1.journal (its found.0 one two)

-- Two images are as P says: those that the disks read as, where they tell their bytes.
pub record OfImages {D : Type 0} (g : disk.Ghosts D) (one two : D) (P : (first second : List ℕ) → Type 0) : Type 0 where
  pub first : List ℕ
  pub second : List ℕ
  pub told_one : IsTrue (g.tells one) → first ≡ g.seen one
  pub told_two : IsTrue (g.tells two) → second ≡ g.seen two
  pub are : P first second
