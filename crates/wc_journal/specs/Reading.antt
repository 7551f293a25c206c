-- What an image of a journal holds.
use Rattle.std.specs.Prelude.{ℕ, zero, suc, ◌+◌, ◌==◌, ◌||◌, ◌&&◌, not, Bool, true, List, [], ◌∷◌, length, take, drop, slice_index, Option, Some, None, Result, Ok, Err, nat_le, nat_lt, if◌then◌else◌}
use Rattle.std.specs.Int.{w32, w64, from_be_bytes}
use Rattle.wc_journal.specs.declared.error.Found.{Found}
use Rattle.wc_journal.specs.declared.error.Found.TheVariants.{Byte, End}

-- the payloads of batches, each with the offset of its first byte
abbrev pub Placed : Type 0
Placed = List (ℕ × List ℕ)

-- what an image holds: no journal, a journal with its batches, or damage at a place
pub data Held : Type 0 where
  no_journal : Held
  holds : (version generation : ℕ) → Placed → Held
  -- the first byte that differs from all journals, or the end of an image that a journal goes past
  damaged : (at : ℕ) → Found → Held

-- the batches, or the damage
abbrev pub Outcome : Type 0
Outcome = Result Placed (ℕ × Found)

-- `57 43 4A 4E 4C 00 00`
abbrev pub magic : List ℕ
magic = 0x57 ∷ 0x43 ∷ 0x4A ∷ 0x4E ∷ 0x4C ∷ 0 ∷ 0 ∷ []

-- a header may have this byte at this place: seven fixed bytes, a version of 1 or 2, and any eight bytes
abbrev pub fits_header : ℕ → ℕ → Bool
fits_header place byte =
    if nat_lt place 7 then byte == slice_index magic place else (if place == 7 then byte == 1 || byte == 2 else true)

-- the first of `left` bytes from a place on that no header has there
abbrev pub misfit_from : ℕ → ℕ → List ℕ → Option (ℕ × Found)
misfit_from zero place bytes = None
misfit_from (suc left) place [] = Some (place, End)
misfit_from (suc left) place (b ∷ bs) = if fits_header place b then misfit_from left (place + 1) bs else Some (place, Byte b)

-- The first of the 16 places of a header at which an image has a byte that no header has there, or ends
unfoldable pub header_misfit : List ℕ → Option (ℕ × Found)
header_misfit image = misfit_from 16 0 image

-- the version that a header says: its byte 7
abbrev pub version_in : List ℕ → ℕ
version_in image = slice_index image 7

-- the generation that a header says: its last eight bytes, the highest first
unfoldable pub generation_in : List ℕ → ℕ
generation_in image = from_be_bytes w64 (take 8 (drop 8 image))

-- batch 0 of a generation of at least 2 is a snapshot
abbrev pub is_snapshot_place : ℕ → ℕ → Bool
is_snapshot_place generation place = place == 0 && nat_le 2 generation

-- the kind byte of a batch: 2 of a snapshot, 1 of any other
abbrev pub kind_of : Bool → ℕ
kind_of snapshot = if snapshot then 2 else 1

-- how many bytes stand before a payload: a length of 4 bytes, or a kind and a length of 8
abbrev pub size_of : ℕ → ℕ
size_of version = if version == 1 then 4 else 9

-- the length that is stated before a payload
unfoldable pub stated : ℕ → List ℕ → ℕ
stated version bytes = if version == 1 then from_be_bytes w32 (take 4 bytes) else from_be_bytes w64 (take 8 (drop 1 bytes))

-- the first byte of a batch, where it is a kind, and not that of its place
unfoldable pub wrong_kind : ℕ → ℕ → ℕ → List ℕ → Option ℕ
wrong_kind version generation place [] = None
wrong_kind version generation place (b ∷ bs) =
    if version == 1 || b == kind_of (is_snapshot_place generation place) then None else Some b

-- one more batch in front of those that follow
abbrev pub and_then_batch : ℕ × List ℕ → Outcome → Outcome
and_then_batch b (Ok bs) = Ok (b ∷ bs)
and_then_batch b (Err e) = Err e

-- the outcome, unless the kind of a batch is wrong
abbrev pub unless_wrong : Option ℕ → ℕ → Outcome → Outcome
unless_wrong None at outcome = outcome
unless_wrong (Some kind) at outcome = Err (at, Byte kind)

-- The batches from an offset on, where a gate stands after `skip` further bytes: up to the first gate that is
-- not open, and the gate before each is open. What follows that gate is passed over.
abbrev pub batches_from : (version generation place at skip : ℕ) → List ℕ → Outcome
batches_from version generation place at skip [] = Err (at, End)
batches_from version generation place at (suc skip) (b ∷ bs) = batches_from version generation place (at + 1) skip bs
batches_from version generation place at zero (gate ∷ bs) =
    if gate == 1
    then unless_wrong (wrong_kind version generation place bs) (at + 1)
    (and_then_batch (at + 1 + size_of version, take (stated version bs) (drop (size_of version) bs))
    (batches_from version generation (place + 1) (at + 1) (size_of version + stated version bs) bs))
    else Ok []

-- an empty or very short file, or one whose header was not finished
abbrev pub stands_for_none : List ℕ → Bool
stands_for_none image = nat_le (length image) 1 || (nat_le (length image) 17 && not (slice_index image 0 == 0x57))

-- what an image with a right header holds: its batches, or the damage among them
abbrev pub held_by : ℕ → ℕ → Outcome → Held
held_by version generation (Ok bs) = holds version generation bs
held_by version generation (Err e) = damaged e.0 e.1

-- what an image holds, by what was found of its header
abbrev pub after_header : Option (ℕ × Found) → List ℕ → Held
after_header (Some e) image = damaged e.0 e.1
after_header None image =
    if generation_in image == 0
    then damaged 15 (Byte 0)
    else held_by (version_in image) (generation_in image) (batches_from (version_in image) (generation_in image) 0 16 0 (drop 16 image))

-- What a whole image holds: no journal; the version, the generation and the payloads, each with the offset of its first byte; or damage, at the first
-- byte that no journal has there, or at the end of an image that a journal goes past
unfoldable pub journal_of : List ℕ → Held
journal_of image = if stands_for_none image then no_journal else after_header (header_misfit image) image

-- The batches that an image holds: none where it has no journal or is damaged
abbrev pub batches_of : Held → Placed
batches_of no_journal = []
batches_of (holds version generation bs) = bs
batches_of (damaged at found) = []

-- where the last of these payloads ends, or the given offset where there is none
abbrev pub end_from : ℕ → Placed → ℕ
end_from at [] = at
end_from at (b ∷ bs) = end_from (b.0 + length b.1) bs

-- the offset of the gate behind these batches
abbrev pub end_of : Placed → ℕ
end_of bs = end_from 16 bs
