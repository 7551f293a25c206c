-- What a payload and what batches are played as.
use Rattle.std.specs.Prelude.{◌≡◌, ℕ, ◌+◌, ◌-◌, ◌^◌, ◌<◌, min, Bool, true, false, List, All, length, Ok, Err, Option, Some, None, slice_get}
use Rattle.wc_journal.specs.Reading.{Placed}
use Rattle.wc_record.specs.declared.error.RecordError.{RecordError}
use Rattle.wc_record.specs.Reading.{whole}
use Rattle.wc_world.specs.World.{World, empty}
use Rattle.wc_world.specs.Applied.{applied}
use Rattle.wc_world.specs.Accepted.{IsAccepted}
use Rattle.wc_world.specs.declared.change.Change.{Change}
use Rattle.wc_world.specs.declared.change.Change.TheVariants as change
use Rattle.wc_store.specs.declared.error.StoreError.{StoreError}
use Rattle.wc_store.specs.declared.error.StoreError.TheVariants as store
use Rattle.wc_store.specs.declared.replay.Unplayed.{Unplayed}
use Rattle.wc_store.specs.declared.replay.Unplayed.TheVariants as unplayed
use Rattle.wc_store.specs.declared.replay.Stop.{Stop}
use Rattle.wc_store.specs.declared.replay.Stop.TheVariants as stop
use Rattle.wc_store.specs.Choices.{found_at}
use Rattle.wc_store.specs.Held.{a_world, damage, place_of, is_plain, suits, IsUnfit, Plays}

-- ---- one payload

-- the payload isn't read, at this byte of it
abbrev pub RefusesReading : List ℕ → Unplayed → Type 0
RefusesReading payload (unplayed.Unread at) = (e : RecordError) × whole payload (Err e) × (at ≡ place_of e)
RefusesReading payload unplayed.Unfit = ⊥
RefusesReading payload unplayed.OutOfMemory = Unit {0}

-- whether a change is a Count
abbrev pub is_count : Option Change → Bool
is_count None = false
is_count (Some (change.Library l names)) = false
is_count (Some (change.Data v)) = false
is_count (Some (change.Process n)) = false
is_count (Some (change.Link l)) = false
is_count (Some (change.Set s)) = false
is_count (Some (change.Count n)) = true
is_count (Some (change.Kept k)) = false

-- the last change is a Count
abbrev pub has_last_count : List Change → Bool
has_last_count cs = is_count (slice_get cs (length cs - 1))

-- the changes suit the batch's place, if a world accepts them
abbrev pub may_suit : Bool → List Change → Bool
may_suit true cs = has_last_count cs
may_suit false cs = is_plain cs

-- the changes don't suit the batch's place, or the world doesn't accept them
abbrev pub RefusesChanges : Bool → World → List Change → Unplayed → Type 0
RefusesChanges snapshot w cs (unplayed.Unread at) = ⊥
RefusesChanges snapshot w cs unplayed.Unfit = IsUnfit snapshot w cs
RefusesChanges snapshot w cs unplayed.OutOfMemory = Unit {0}

-- the payload isn't read, or its changes don't fit
abbrev pub RefusesPayload : Bool → List ℕ → World → Unplayed → Type 0
RefusesPayload snapshot payload w (unplayed.Unread at) = (e : RecordError) × whole payload (Err e) × (at ≡ place_of e)
RefusesPayload snapshot payload w unplayed.Unfit = (cs : List Change) × whole payload (Ok cs) × IsUnfit snapshot w cs
RefusesPayload snapshot payload w unplayed.OutOfMemory = Unit {0}

-- the payload's changes suit and are accepted, and the world is the one after them
pub record IsPlayed (snapshot : Bool) (payload : List ℕ) (old new : World) : Type 0 where
  pub changes : List Change
  pub reads : whole payload (Ok changes)
  pub suit : suits snapshot changes ≡ true
  pub accepted : IsAccepted old changes
  pub after : new ≡ applied old changes

-- ---- batches

-- where a disk is damaged that has a payload at this offset which isn't played
abbrev pub stop_of : ℕ → Unplayed → Stop
stop_of at (unplayed.Unread within) = stop.At (min (at + within) (2 ^ 64 - 1))
stop_of at unplayed.Unfit = stop.At at
stop_of at unplayed.OutOfMemory = stop.OutOfMemory

-- 64 bits can tell where each payload ends
abbrev pub AreAddressed : Placed → Type 0
AreAddressed bs = All (λ b. b.0 + length b.1 < 2 ^ 64) bs

-- the same of an image whose bytes 64 bits can count
abbrev pub AreCounted : List ℕ → Placed → Type 0
AreCounted image bs = length image < 2 ^ 64 → AreAddressed bs

-- on each disk these batches make this world
abbrev pub Makes : ℕ → Placed → World → Type 0
Makes generation bs w = (disk : ℕ) (image : List ℕ) → Plays disk image generation 0 empty bs (a_world w)

-- each disk that has these batches is damaged at this offset
abbrev pub Breaks : ℕ → Placed → ℕ → Type 0
Breaks generation bs at = (disk : ℕ) (image : List ℕ) → Plays disk image generation 0 empty bs (damage disk at (found_at image at))

-- batches break at a place, or memory ran out
abbrev pub RefusesBatches : ℕ → Placed → Stop → Type 0
RefusesBatches generation bs (stop.At at) = AreAddressed bs → Breaks generation bs at
RefusesBatches generation bs stop.OutOfMemory = Unit {0}

-- A disk is damaged where the batches of its image aren't played, and what is told is there, where 64 bits can tell where each payload ends if
-- they can count the image's bytes.
abbrev pub RefusesPlaying : (disk : ℕ) → List ℕ → ℕ → Placed → StoreError → Type 0
RefusesPlaying disk image generation bs store.DiskFault = ⊥
RefusesPlaying disk image generation bs (store.Damaged number at found) = AreCounted image bs → Plays disk image generation 0 empty bs (damage number at found)
RefusesPlaying disk image generation bs (store.Full what count limit) = ⊥
RefusesPlaying disk image generation bs store.AlreadyThere = ⊥
RefusesPlaying disk image generation bs store.OutOfMemory = Unit {0}
