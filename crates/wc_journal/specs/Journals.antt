-- When a journal stands for a disk, and what its calls leave.
use Rattle.std.specs.Prelude.{◌≡◌, ◌⊎◌, ◌+◌, ◌≤◌, ◌==◌, ◌||◌, ◌++◌, [], ◌∷◌, Bool, false, ℕ, List, length, max, slice_index, Option, Some, None, if◌then◌else◌}
use Rattle.wc_disk.specs.declared.disk.Disk as disk
use Rattle.wc_disk.specs.Steps.{overwritten, Only}
use Rattle.wc_disk.specs.Images.{LeavesOnly}
use Rattle.wc_journal.specs.declared.journal.Journal.{Journal}
use Rattle.wc_journal.specs.declared.journal.Loaded.{Loaded}
use Rattle.wc_journal.specs.Reading.{Held, Placed, no_journal, holds, journal_of, batches_of, size_of, end_of}

-- the image stands for this journal and these batches, and the journal keeps the offset of its last gate
pub record IsJournalOf (journal : Journal) (batches : Placed) (image : List ℕ) : Type 0 where
  pub held : journal_of image ≡ holds journal.version journal.generation batches
  pub end : journal.end ≡ end_of batches

-- nothing is pending on the disk, and what it reads as stands for this journal
pub record IsSettled {D : Type 0} (g : disk.Ghosts D) (journal : Journal) (disk : D) : Type 0 where
  pub durable : Only (g.seen disk) (g.may_leave disk)
  pub stands : IsJournalOf journal (batches_of (journal_of (g.seen disk))) (g.seen disk)

-- the journal with one batch more
abbrev pub with_batch : Journal → Held → List ℕ → Held
with_batch journal before payload = holds journal.version journal.generation (batches_of before ++ (journal.end + 1 + size_of journal.version, payload) ∷ [])

-- The file has at most so many bytes, and so has each image that a crash from before the call to now leaves.
pub record StaysWithin {D : Type 0} (g : disk.Ghosts D) (most : ℕ) (old new : D) : Type 0 where
  pub file : length (g.seen new) ≤ most
  pub images : LeavesOnly g old new (λ image. length image ≤ most)

-- the image holds the one or the other
abbrev pub HoldsEither : Held → Held → List ℕ → Type 0
HoldsEither one other image = (journal_of image ≡ one) ⊎ (journal_of image ≡ other)

-- the image has no first byte of a finished header, or is shorter than any journal
abbrev pub IsClosed : List ℕ → Type 0
IsClosed image = (length image ≤ 1) ⊎ ((slice_index image 0 == 0x57) ≡ false)

-- the image is the one at entry, or is closed, or holds this
abbrev pub IsReplaced : List ℕ → Held → List ℕ → Type 0
IsReplaced old new image = (image ≡ old) ⊎ (IsClosed image ⊎ (journal_of image ≡ new))

-- the file is empty, or its first byte is that of a header
abbrev pub is_open : List ℕ → Bool
is_open image = (length image == 0) || (slice_index image 0 == 0x57)

-- the file with 00 as its first byte, where it is open
abbrev pub closed_first : List ℕ → List ℕ
closed_first image = if is_open image then overwritten 0 (0 ∷ []) image else image

-- the file's first byte is there, and is not that of a header
pub record HasClosedFirst (old new : List ℕ) : Type 0 where
  pub some : 1 ≤ length new
  pub shut : (slice_index new 0 == 0x57) ≡ false
  pub size : length new ≤ max 1 (length old)

-- the image is the one at entry, or is closed
abbrev pub ClosesFirst : List ℕ → List ℕ → Type 0
ClosesFirst old image = (image ≡ old) ⊎ (IsClosed image × (length image ≤ max 1 (length old)))

-- what was loaded is what the image holds, and is kept with the image
abbrev pub Gives : List ℕ → Option Loaded → Type 0
Gives image None = journal_of image ≡ no_journal
Gives image (Some loaded) = (loaded.batches.image ≡ image) × IsJournalOf loaded.journal loaded.batches.placed image

-- a journal that was loaded stands for its disk
abbrev pub StandsFor : {D : Type 0} → disk.Ghosts D → Option Loaded → D → Type 0
StandsFor g None d = Unit {0}
StandsFor g (Some loaded) d = IsSettled g loaded.journal d
