-- Laws of changes as bytes.
use Rattle.std.specs.Prelude.{ℕ, ◌<◌, ◌≡◌, List, Result, Ok, slice_index}
use Rattle.wc_world.specs.declared.change.Change.{Change}
use Rattle.wc_record.specs.declared.error.RecordError.{RecordError}
use Rattle.wc_record.specs.Spelled.{spelled}
use Rattle.wc_record.specs.Written.{IsWritten}
use Rattle.wc_record.specs.Reading.{whole}

-- Reading gives one answer at most.
abbrev pub OneAnswer : Type 0
OneAnswer = (bytes : List ℕ) (r s : Result (List Change) RecordError) → whole bytes r → whole bytes s → r ≡ s

-- Reading has an answer.
abbrev pub SomeReading : Type 0
SomeReading = (bytes : List ℕ) → (r : Result (List Change) RecordError) × whole bytes r

-- What is written is read.
abbrev pub WrittenIsRead : Type 0
WrittenIsRead = (cs : List Change) → IsWritten cs → whole (spelled cs) (Ok cs)

-- What is read is written so.
abbrev pub ReadIsWritten : Type 0
ReadIsWritten = (bytes : List ℕ) (cs : List Change) → ((i : ℕ) → slice_index bytes i < 256) → whole bytes (Ok cs) → (bytes ≡ spelled cs) × IsWritten cs
