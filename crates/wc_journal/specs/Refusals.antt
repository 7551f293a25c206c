-- When a journal refuses, and what is counted.
use Rattle.std.specs.Prelude.{◌≡◌, ◌+◌, ◌-◌, ◌^◌, ◌<◌, ◌≤◌, ℕ, List, length, min, Result, Ok, Err}
use Rattle.wc_disk.specs.declared.disk.Disk as disk
use Rattle.wc_io.specs.Counts.{RisesByOne}
use Rattle.wc_journal.specs.declared.error.JournalError.{JournalError}
use Rattle.wc_journal.specs.declared.error.JournalError.TheVariants.{DiskFault, Damaged, Full, OutOfMemory}
use Rattle.wc_journal.specs.Reading.{Held, Outcome, damaged, journal_of, size_of}
use Rattle.wc_journal.specs.Loading.{OfImage}
use Rattle.wc_journal.specs.Frame.{most_of}

-- a payload has too many bytes for its version
abbrev pub RefusesBatch : ℕ → List ℕ → JournalError → Type 0
RefusesBatch version payload DiskFault = ⊥
RefusesBatch version payload (Damaged at found) = ⊥
RefusesBatch version payload (Full count limit) = (count ≡ length payload) × (limit ≡ most_of version) × (most_of version < length payload)
RefusesBatch version payload OutOfMemory = Unit {0}

-- the bytes from the header's first to the gate behind a batch that is written at this gate
abbrev pub size_after : ℕ → ℕ → List ℕ → ℕ
size_after end version payload = end + 1 + size_of version + length payload + 1

-- an append would make the journal longer than the limit; only else may the disk have failed, which its count tells
abbrev pub RefusesAppend : ℕ → ℕ → JournalError → Type 0
RefusesAppend size limit DiskFault = size ≤ limit
RefusesAppend size limit (Damaged at found) = ⊥
RefusesAppend size limit (Full count most) = (count ≡ min size (2 ^ 64 - 1)) × (most ≡ limit) × (limit < size)
RefusesAppend size limit OutOfMemory = ⊥

-- an image is damaged at the place that is told
abbrev pub RefusesImage : Held → JournalError → Type 0
RefusesImage held DiskFault = ⊥
RefusesImage held (Damaged at found) = held ≡ damaged at found
RefusesImage held (Full count limit) = ⊥
RefusesImage held OutOfMemory = Unit {0}

-- the same of batches
abbrev pub RefusesBatches : Outcome → JournalError → Type 0
RefusesBatches outcome DiskFault = ⊥
RefusesBatches outcome (Damaged at found) = outcome ≡ Err (at, found)
RefusesBatches outcome (Full count limit) = ⊥
RefusesBatches outcome OutOfMemory = Unit {0}

-- the same of an image that is read from a disk
abbrev pub RefusesLoad : {D : Type 0} → disk.Ghosts D → D → JournalError → Type 0
RefusesLoad g d DiskFault = Unit {0}
RefusesLoad g d (Damaged at found) = OfImage g d (λ image. journal_of image ≡ damaged at found)
RefusesLoad g d (Full count limit) = ⊥
RefusesLoad g d OutOfMemory = Unit {0}

-- bytes are not read where the disk failed or memory ran out
abbrev pub RefusesReading : JournalError → Type 0
RefusesReading DiskFault = Unit {0}
RefusesReading (Damaged at found) = ⊥
RefusesReading (Full count limit) = ⊥
RefusesReading OutOfMemory = Unit {0}

-- nothing is refused but that the disk failed
abbrev pub OnlyDiskFault : JournalError → Type 0
OnlyDiskFault error = error ≡ DiskFault

-- `DiskFault` is told only where the disk's count rose by one and its last call failed, and each other answer leaves that count
abbrev pub CountsDiskFault : {T : Type 0} → Result T JournalError → ℕ → ℕ → Type 0 → Type 0
CountsDiskFault (Ok answer) old new failed = new ≡ old
CountsDiskFault (Err DiskFault) old new failed = RisesByOne old new × failed
CountsDiskFault (Err (Damaged at found)) old new failed = new ≡ old
CountsDiskFault (Err (Full count limit)) old new failed = new ≡ old
CountsDiskFault (Err OutOfMemory) old new failed = new ≡ old

-- the image was read, so that all of it was synced
abbrev pub IfRead : {T : Type 0} → Result T JournalError → Type 0 → Type 0
IfRead (Ok answer) P = P
IfRead (Err DiskFault) P = Unit {0}
IfRead (Err (Damaged at found)) P = P
IfRead (Err (Full count limit)) P = P
IfRead (Err OutOfMemory) P = Unit {0}
