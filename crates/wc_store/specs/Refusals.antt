-- When a store refuses, and what is counted.
use Rattle.std.specs.Prelude.{◌≡◌, ℕ, List, Result, Ok, Err, Bool, false, ◌-◌, ◌^◌, ◌<◌, ◌≤◌, ◌==◌, min, length, if◌then◌else◌}
use Rattle.wc_disk.specs.declared.disk.Disk as disk
use Rattle.wc_io.specs.Counts.{RisesByOne, EitherFailedLast}
use Rattle.wc_store.specs.declared.error.StoreError.{StoreError}
use Rattle.wc_store.specs.declared.error.StoreError.TheVariants.{DiskFault, Damaged, Full, AlreadyThere, OutOfMemory}
use Rattle.wc_store.specs.Choices.{broken, chosen}
use Rattle.wc_store.specs.Sights.{OfImages}
use Rattle.wc_state.specs.declared.record.Limits.{Limits}
use Rattle.wc_state.specs.declared.record.What.TheVariants as what
use Rattle.wc_store.specs.Held.{damage, IsHeld, HoldsAWorld}
use Rattle.wc_journal.specs.declared.journal.Journal.{Journal}
use Rattle.wc_journal.specs.Refusals.{size_after}
use Rattle.wc_record.specs.Spelled.{spelled}
use Rattle.wc_world.specs.World.{World}
use Rattle.wc_world.specs.Applied.{applied}
use Rattle.wc_world.specs.Snapshot.{snapshot}
use Rattle.wc_world.specs.declared.change.Change.{Change}

-- nothing is told of a disk that failed, or where memory ran out
abbrev pub RefusesLook : StoreError → Type 0
RefusesLook DiskFault = Unit {0}
RefusesLook (Damaged disk at found) = ⊥
RefusesLook (Full what count limit) = ⊥
RefusesLook AlreadyThere = ⊥
RefusesLook OutOfMemory = Unit {0}

-- a disk is damaged at the place that is told, as two images say
abbrev pub RefusesFinding : {D : Type 0} → disk.Ghosts D → (one two : D) → StoreError → Type 0
RefusesFinding g one two DiskFault = Unit {0}
RefusesFinding g one two (Damaged number at found) = OfImages g one two (λ a b. chosen a b ≡ broken number at found)
RefusesFinding g one two (Full what count limit) = ⊥
RefusesFinding g one two AlreadyThere = ⊥
RefusesFinding g one two OutOfMemory = Unit {0}

-- `DiskFault` comes only where the disk's count rose by one and its last call failed, and each other refusal leaves that count
abbrev pub CountsRefusal : StoreError → ℕ → ℕ → Type 0 → Type 0
CountsRefusal DiskFault old new failed = RisesByOne old new × failed
CountsRefusal (Damaged disk at found) old new failed = new ≡ old
CountsRefusal (Full what count limit) old new failed = new ≡ old
CountsRefusal AlreadyThere old new failed = new ≡ old
CountsRefusal OutOfMemory old new failed = new ≡ old

-- the same of a call on one disk
abbrev pub CountsOne : {T : Type 0} → Result T StoreError → ℕ → ℕ → Type 0 → Type 0
CountsOne (Ok answer) old new failed = new ≡ old
CountsOne (Err error) old new failed = CountsRefusal error old new failed

-- `DiskFault` comes only where the count of one of the disks rose by one, its last call failed and the other count stayed,
-- and each other answer leaves both counts
abbrev pub Counts : {T : Type 0} → Result T StoreError → (one one' two two' : ℕ) → (failed_one failed_two : Type 0) → Type 0
Counts (Ok answer) one one' two two' failed_one failed_two = (one' ≡ one) × (two' ≡ two)
Counts (Err DiskFault) one one' two two' failed_one failed_two = EitherFailedLast one one' two two' failed_one failed_two
Counts (Err (Damaged disk at found)) one one' two two' failed_one failed_two = (one' ≡ one) × (two' ≡ two)
Counts (Err (Full what count limit)) one one' two two' failed_one failed_two = (one' ≡ one) × (two' ≡ two)
Counts (Err AlreadyThere) one one' two two' failed_one failed_two = (one' ≡ one) × (two' ≡ two)
Counts (Err OutOfMemory) one one' two two' failed_one failed_two = (one' ≡ one) × (two' ≡ two)

-- damage that is told is what two images hold: those that the disks read as, where they tell their bytes; a load is never refused for a store that is there
abbrev pub RefusesLoad : {D : Type 0} → disk.Ghosts D → (one two : D) → StoreError → Type 0
RefusesLoad g one two DiskFault = Unit {0}
RefusesLoad g one two (Damaged number at found) = OfImages g one two (λ a b. IsHeld a b (damage number at found))
RefusesLoad g one two (Full what count limit) = ⊥
RefusesLoad g one two AlreadyThere = ⊥
RefusesLoad g one two OutOfMemory = Unit {0}

-- so it is where a store is made; and one that is there is a world that two images hold, those that the disks read as, where they tell their bytes
abbrev pub RefusesInit : {D : Type 0} → disk.Ghosts D → (one two : D) → StoreError → Type 0
RefusesInit g one two DiskFault = Unit {0}
RefusesInit g one two (Damaged number at found) = OfImages g one two (λ a b. IsHeld a b (damage number at found))
RefusesInit g one two (Full what count limit) = ⊥
RefusesInit g one two AlreadyThere = OfImages g one two HoldsAWorld
RefusesInit g one two OutOfMemory = Unit {0}

-- the bytes of a journal are limited by the settings, and in version 1 by 1,073,741,824 too
abbrev pub byte_limit : ℕ → ℕ → ℕ
byte_limit version most = if version == 1 then min most 1073741824 else most

-- how many bytes the journal has after a commit
abbrev pub committed_bytes : Journal → List Change → ℕ
committed_bytes journal cs = size_after journal.end journal.version (spelled cs)

-- a commit would pass the limit of nodes, or else that of bytes; batches are never too many where the changes are accepted
abbrev pub RefusesCommit : Journal → Limits → World → List Change → StoreError → Type 0
RefusesCommit journal limits w cs DiskFault =
    (length (applied w cs).nodes ≤ limits.max_nodes) × (committed_bytes journal cs ≤ byte_limit journal.version limits.max_bytes)
RefusesCommit journal limits w cs (Damaged disk at found) = ⊥
RefusesCommit journal limits w cs (Full what.Nodes count limit) =
    (count ≡ length (applied w cs).nodes) × (limit ≡ limits.max_nodes) × (limits.max_nodes < length (applied w cs).nodes)
RefusesCommit journal limits w cs (Full what.Bytes count limit) =
    (length (applied w cs).nodes ≤ limits.max_nodes)
    × (count ≡ min (committed_bytes journal cs) (2 ^ 64 - 1)) × (limit ≡ byte_limit journal.version limits.max_bytes)
    × (byte_limit journal.version limits.max_bytes < committed_bytes journal cs)
RefusesCommit journal limits w cs (Full what.Batches count limit) = ⊥
RefusesCommit journal limits w cs (Full what.Generations count limit) = ⊥
RefusesCommit journal limits w cs AlreadyThere = ⊥
RefusesCommit journal limits w cs OutOfMemory = Unit {0}

-- a pack would pass the limit of generations, or else its snapshot that of a payload
abbrev pub RefusesPack : ℕ → World → StoreError → Type 0
RefusesPack generation w DiskFault = (generation ≤ 4000000000) × (length (spelled (snapshot w)) ≤ 2147483648)
RefusesPack generation w (Damaged disk at found) = ⊥
RefusesPack generation w (Full what.Generations count limit) = (count ≡ generation) × (limit ≡ 4000000000) × (4000000000 < generation)
RefusesPack generation w (Full what.Bytes count limit) =
    (generation ≤ 4000000000) × (count ≡ min (length (spelled (snapshot w))) (2 ^ 64 - 1)) × (limit ≡ 2147483648) × (2147483648 < length (spelled (snapshot w)))
RefusesPack generation w (Full what.Nodes count limit) = ⊥
RefusesPack generation w (Full what.Batches count limit) = ⊥
RefusesPack generation w AlreadyThere = ⊥
RefusesPack generation w OutOfMemory = Unit {0}

-- a full store is the one before, and so is one for which memory ran out
abbrev pub IsUnchanged : {T S : Type 0} → Result T StoreError → S → S → Type 0
IsUnchanged (Ok answer) old new = Unit {0}
IsUnchanged (Err DiskFault) old new = Unit {0}
IsUnchanged (Err (Damaged disk at found)) old new = new ≡ old
IsUnchanged (Err (Full what count limit)) old new = new ≡ old
IsUnchanged (Err AlreadyThere) old new = new ≡ old
IsUnchanged (Err OutOfMemory) old new = new ≡ old

-- a store is live but after a DiskFault
abbrev pub is_live_after : {T : Type 0} → Result T StoreError → Bool → Bool
is_live_after (Err DiskFault) live = false
is_live_after _ live = live
