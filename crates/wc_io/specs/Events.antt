-- What a record keeps of one call of the system: numbers, a name and bytes.
use Rattle.std.specs.Prelude.{◌≡◌, ◌⊎◌, ℕ, Bool, IsTrue, false, List, [], ◌∷◌, ◌++◌, ◌==◌, ◌||◌, ◌&&◌, ◌+◌, ◌*◌, ◌/◌, ◌%◌, slice_index, Option, Some, None, if◌then◌else◌}

-- A call of the system as a record keeps it: numbers, of which the first is its kind, a name and bytes
abbrev pub Event : Type 0
Event = List ℕ × List ℕ × List ℕ

-- an event of these numbers, name and bytes
abbrev pub event_of : (numbers name bytes : List ℕ) → Event
event_of numbers name bytes = (numbers, name, bytes)

-- the events of a shelf of files: a file is opened, a piece of it is read, its end is read, there is no such file, it can't be opened
abbrev pub opening : (name : List ℕ) → Event
opening name = event_of (0 ∷ []) name []

-- a piece of a file with these bytes was read
abbrev pub piece_of : (bytes : List ℕ) → Event
piece_of bytes = event_of (1 ∷ []) [] bytes

-- the end of a file was read
abbrev pub ending : Event
ending = event_of (2 ∷ []) [] []

-- there was no file of this name
abbrev pub missing : (name : List ℕ) → Event
missing name = event_of (3 ∷ []) name []

-- the file of this name couldn't be opened
abbrev pub refusing : (name : List ℕ) → Event
refusing name = event_of (4 ∷ []) name []

-- the events of a clock: it tells a moment in milliseconds, it rests for so many nanoseconds, kept as seconds and what is left
abbrev pub telling : (moment : ℕ) → Event
telling moment = event_of (0 ∷ moment ∷ []) [] []

-- a clock rested so many nanoseconds, kept as seconds and what is left
abbrev pub resting : (time : ℕ) → Event
resting time = event_of (1 ∷ time / 1000000000 ∷ time % 1000000000 ∷ []) [] []

-- the bytes of all calls, the earliest first
abbrev pub all_bytes : List Event → List ℕ
all_bytes [] = []
all_bytes ((numbers, name, bytes) ∷ earlier) = all_bytes earlier ++ bytes

-- this moment was answered; 0 counts as answered before the first call
abbrev pub was_said : ℕ → List Event → Bool
was_said moment [] = moment == 0
was_said moment ((numbers, name, bytes) ∷ earlier) =
    (slice_index numbers 0 == 0 && moment == slice_index numbers 1) || was_said moment earlier

-- how many nanoseconds all rests were to take
abbrev pub all_rests : List Event → ℕ
all_rests [] = 0
all_rests ((numbers, name, bytes) ∷ earlier) =
    if slice_index numbers 0 == 1
    then all_rests earlier + (slice_index numbers 1 * 1000000000 + slice_index numbers 2)
    else all_rests earlier

-- The names that were asked for, the earliest first. A piece and an end are of the file that is open, and each other event has a name.
abbrev pub asked_names : List Event → List (List ℕ)
asked_names [] = []
asked_names ((numbers, name, bytes) ∷ earlier) =
    if slice_index numbers 0 == 1 || slice_index numbers 0 == 2 then asked_names earlier else asked_names earlier ++ (name ∷ [])

-- of a file that is read, the pieces since the last event of another kind, the earliest first
abbrev pub pieces : List Event → List ℕ
pieces [] = []
pieces ((numbers, name, bytes) ∷ earlier) = if slice_index numbers 0 == 1 then pieces earlier ++ bytes else []

-- the name of the file that was opened last
abbrev pub opened : List Event → List ℕ
opened [] = []
opened ((numbers, name, bytes) ∷ earlier) = if slice_index numbers 0 == 0 then name else opened earlier

-- the system answered this content for this name: it was opened and read to its end, or wasn't there
abbrev pub Answered : List ℕ → Option (List ℕ) → List Event → Type 0
Answered asked answer [] = IsTrue false
Answered asked answer ((numbers, name, bytes) ∷ earlier) =
    ((slice_index numbers 0 ≡ 2) × (asked ≡ opened earlier) × (answer ≡ Some (pieces earlier)))
    ⊎ ((slice_index numbers 0 ≡ 3) × (asked ≡ name) × (answer ≡ None))
    ⊎ Answered asked answer earlier

-- what was answered stays answered
pub record KeepsAnswers (old new : List Event) : Type 0 where
  pub keeps : (asked : List ℕ) (answer : Option (List ℕ)) → Answered asked answer old → Answered asked answer new
