-- Which of two disks a store is on.
use Rattle.std.specs.Prelude.{ℕ, ◌==◌, nat_le, nat_lt, Bool, true, false, ◌&&◌, if◌then◌else◌, List, [], ◌∷◌, length, slice_index}
use Rattle.wc_journal.specs.declared.error.Found.{Found}
use Rattle.wc_journal.specs.declared.error.Found.TheVariants.{Byte, End}
use Rattle.wc_journal.specs.Reading.{Held, Placed, no_journal, holds, damaged, journal_of}

-- the byte at a place, or the end
abbrev pub found_at : List ℕ → ℕ → Found
found_at image at = if nat_lt at (length image) then Byte (slice_index image at) else End

-- the first byte is that of a finished header
abbrev pub begins : List ℕ → Bool
begins image = nat_le 1 (length image) && (slice_index image 0 == 0x57)

-- a disk with another first byte counts as one without a journal
abbrev pub journal_in : List ℕ → Held
journal_in image = if begins image then journal_of image else no_journal

-- Which of two disks a store is on: on none, or there is damage at a place of one, or on a disk, with the version, the generation and the batches of its
-- journal
pub data Choice : Type 0 where
  -- there is no store
  no_store : Choice
  -- a disk, numbered from 1, is damaged at a place
  broken : (disk at : ℕ) → Found → Choice
  -- the store is on this disk, whose journal has this version, this generation and these batches
  on : (disk version generation : ℕ) → Placed → Choice

-- whether a list is empty
abbrev pub is_nil : {T : Type 0} → List T → Bool
is_nil [] = true
is_nil (x ∷ xs) = false

-- a journal of a later generation that holds no snapshot is damaged at its first gate
abbrev pub settled_on : ℕ → List ℕ → ℕ → ℕ → Placed → Choice
settled_on disk image version generation batches =
    if is_nil batches && nat_le 2 generation then broken disk 16 (found_at image 16) else on disk version generation batches

-- without a journal on either, a disk that is longer than an unfinished header is damaged at its first byte
abbrev pub without_journal : List ℕ → List ℕ → Choice
without_journal one two =
    if nat_lt 17 (length one) then broken 1 0 (found_at one 0)
    else if nat_lt 17 (length two) then broken 2 0 (found_at two 0)
    else no_store

-- of two journals the later generation counts, and there is one
abbrev pub later_of : List ℕ → List ℕ → (version generation : ℕ) → Placed → (version generation : ℕ) → Placed → Choice
later_of one two v g bs v' g' bs' =
    if g == g' then broken 2 15 (found_at two 15)
    else if nat_lt g' g then settled_on 1 one v g bs
    else settled_on 2 two v' g' bs'

-- which disk has the store, or which is damaged, by what each holds: damage of disk one comes first, and of two journals the later one counts
abbrev pub chosen_of : List ℕ → List ℕ → Held → Held → Choice
chosen_of one two (damaged at found) held = broken 1 at found
chosen_of one two no_journal (damaged at found) = broken 2 at found
chosen_of one two (holds v g bs) (damaged at found) = broken 2 at found
chosen_of one two no_journal no_journal = without_journal one two
chosen_of one two (holds v g bs) no_journal = settled_on 1 one v g bs
chosen_of one two no_journal (holds v g bs) = settled_on 2 two v g bs
chosen_of one two (holds v g bs) (holds v' g' bs') = later_of one two v g bs v' g' bs'

-- what the images of disk one and of disk two say
unfoldable pub chosen : List ℕ → List ℕ → Choice
chosen one two = chosen_of one two (journal_in one) (journal_in two)
