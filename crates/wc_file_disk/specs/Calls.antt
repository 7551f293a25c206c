-- The calls of the system on one file, each with its answer, read off the record of a file.
use Rattle.std.specs.Prelude.{ℕ, Bool, true, false, List, [], ◌∷◌, ◌==◌, ◌||◌, ◌+◌, length, min, max, slice_index, if◌then◌else◌}
use Rattle.wc_io.specs.Events.{Event}

-- A call that fails and can have changed nothing is none of these. A write that fails may have written a part.
pub data FileCall : Type 0 where
  opened : FileCall
  missing : FileCall
  created : FileCall
  -- its descriptor is none of the standard streams'
  apart : FileCall
  -- its name and that of its folder are on the disk
  named : FileCall
  locked : FileCall
  closed : FileCall
  measured : ℕ → FileCall
  read : ℕ → List ℕ → FileCall
  wrote : ℕ → List ℕ → FileCall
  failed_to_write : ℕ → List ℕ → FileCall
  cut : ℕ → FileCall
  failed_to_cut : ℕ → FileCall
  synced : FileCall

-- the call of a kind, at an offset or a length, with these bytes
abbrev pub kind_of : (kind place : ℕ) (bytes : List ℕ) → FileCall
kind_of kind place bytes =
    if kind == 0 then opened
    else if kind == 1 then missing
    else if kind == 2 then created
    else if kind == 3 then apart
    else if kind == 4 then named
    else if kind == 5 then locked
    else if kind == 6 then closed
    else if kind == 7 then measured place
    else if kind == 8 then read place bytes
    else if kind == 9 then wrote place bytes
    else if kind == 10 then failed_to_write place bytes
    else if kind == 11 then cut place
    else if kind == 12 then failed_to_cut place
    else synced

-- the call of the system that an event keeps
abbrev pub call_of : Event → FileCall
call_of (numbers, name, bytes) = kind_of (slice_index numbers 0) (slice_index numbers 1) bytes

-- the calls of a record, the last one first
abbrev pub calls_of : List Event → List FileCall
calls_of [] = []
calls_of (event ∷ earlier) = call_of event ∷ calls_of earlier

-- ---- the order of the calls

-- the file was opened or made last
abbrev pub is_open : List FileCall → Bool
is_open [] = false
is_open (opened ∷ earlier) = true
is_open (created ∷ earlier) = true
is_open (_ ∷ earlier) = false

-- the last call got a descriptor apart from the standard streams
abbrev pub is_apart : List FileCall → Bool
is_apart [] = false
is_apart (apart ∷ earlier) = true
is_apart (_ ∷ earlier) = false

-- the last call brought the file's name to the disk
abbrev pub is_named : List FileCall → Bool
is_named [] = false
is_named (named ∷ earlier) = true
is_named (_ ∷ earlier) = false

-- the file was locked since it was opened, and is open
abbrev pub is_held : List FileCall → Bool
is_held [] = false
is_held (opened ∷ earlier) = false
is_held (missing ∷ earlier) = false
is_held (created ∷ earlier) = false
is_held (apart ∷ earlier) = false
is_held (named ∷ earlier) = false
is_held (locked ∷ earlier) = true
is_held (closed ∷ earlier) = false
is_held (_ ∷ earlier) = is_held earlier

-- the last call brought all to the disk, or found no file
abbrev pub is_flushed : List FileCall → Bool
is_flushed [] = false
is_flushed (missing ∷ earlier) = true
is_flushed (synced ∷ earlier) = true
is_flushed (_ ∷ earlier) = false

-- the last call found no file
abbrev pub is_missing : List FileCall → Bool
is_missing [] = false
is_missing (missing ∷ earlier) = true
is_missing (_ ∷ earlier) = false

-- the file is open and was locked since, or the last call found none
abbrev pub is_locked_or_missing : List FileCall → Bool
is_locked_or_missing calls = is_held calls || is_missing calls

-- a length that the file is known to have
abbrev pub floor : List FileCall → ℕ
floor [] = 0
floor (measured n ∷ earlier) = n
floor (wrote at bytes ∷ earlier) = max (floor earlier) (min at (floor earlier) + length bytes)
floor (cut n ∷ earlier) = min (floor earlier) n
floor (failed_to_cut n ∷ earlier) = min (floor earlier) n
floor (_ ∷ earlier) = floor earlier
