-- What the images of two disks hold: nothing, a place of damage, or a world.
use Rattle.std.specs.Prelude.{◌≡◌, ◌⊎◌, ℕ, ◌+◌, ◌==◌, Bool, true, false, if◌then◌else◌, List, [], ◌∷◌, Ok, Err}
use Rattle.wc_journal.specs.declared.error.Found.{Found}
use Rattle.wc_journal.specs.Reading.{Placed, is_snapshot_place}
use Rattle.wc_record.specs.declared.error.RecordError.{RecordError}
use Rattle.wc_record.specs.declared.error.RecordError.TheVariants as error
use Rattle.wc_record.specs.Reading.{whole}
use Rattle.wc_world.specs.World.{World, empty}
use Rattle.wc_world.specs.Applied.{applied}
use Rattle.wc_world.specs.Accepted.{IsAccepted, IsRefused, is_in_order}
use Rattle.wc_world.specs.declared.change.Change.{Change}
use Rattle.wc_world.specs.declared.change.Change.TheVariants as change
use Rattle.wc_world.specs.declared.error.WorldError.{WorldError}
use Rattle.wc_store.specs.Choices.{Choice, no_store, broken, on, chosen, found_at}

-- What the images of two disks hold: nothing, damage of a disk at a place, or a world
pub data Standing : Type 0 where
  nothing : Standing
  damage : (disk at : ℕ) → Found → Standing
  a_world : World → Standing

-- the place that a refusal of changes names
abbrev pub place_of : RecordError → ℕ
place_of error.OutOfMemory = 0
place_of (error.Truncated at) = at
place_of (error.BadTag at) = at
place_of (error.NotUtf8 at) = at
place_of (error.Unsorted at) = at
place_of (error.TooDeep at) = at
place_of (error.Trailing at) = at
place_of (error.BadLibrary at) = at

-- no change is a Count or a Kept
abbrev pub is_plain : List Change → Bool
is_plain [] = true
is_plain (change.Library l names ∷ cs) = is_plain cs
is_plain (change.Data v ∷ cs) = is_plain cs
is_plain (change.Process n ∷ cs) = is_plain cs
is_plain (change.Link l ∷ cs) = is_plain cs
is_plain (change.Set s ∷ cs) = is_plain cs
is_plain (change.Count n ∷ cs) = false
is_plain (change.Kept k ∷ cs) = false

-- a snapshot ends in its one Count, and any other batch has no Count and no Kept
abbrev pub suits : Bool → List Change → Bool
suits true cs = is_in_order cs
suits false cs = is_plain cs

-- the changes don't suit the batch's place, or the world doesn't accept them
abbrev pub IsUnfit : Bool → World → List Change → Type 0
IsUnfit snapshot w cs = (suits snapshot cs ≡ false) ⊎ ((suits snapshot cs ≡ true) × ((e : WorldError) × IsRefused w cs e))

-- What batches of a disk, from a place on, make of a world: each payload is read and its changes are applied, up to the first
-- that is damaged, at the byte where its reading stops, or at its first byte where its changes don't fit.
abbrev pub Plays : (disk : ℕ) → List ℕ → (generation place : ℕ) → World → Placed → Standing → Type 0
Plays disk image generation place w [] s = s ≡ a_world w
Plays disk image generation place w (b ∷ bs) s =
    ((e : RecordError) × whole b.1 (Err e) × (s ≡ damage disk (b.0 + place_of e) (found_at image (b.0 + place_of e))))
    ⊎ ((cs : List Change) × whole b.1 (Ok cs) × (
    (IsUnfit (is_snapshot_place generation place) w cs × (s ≡ damage disk b.0 (found_at image b.0)))
    ⊎ ((suits (is_snapshot_place generation place) cs ≡ true) × IsAccepted w cs × Plays disk image generation (place + 1) (applied w cs) bs s)))

-- the image of a disk, by its number
abbrev pub image_of : ℕ → List ℕ → List ℕ → List ℕ
image_of disk one two = if disk == 1 then one else two

-- what two images hold, once a disk is chosen: nothing, damage, or what its batches play to
abbrev pub PlaysChoice : List ℕ → List ℕ → Choice → Standing → Type 0
PlaysChoice one two no_store s = s ≡ nothing
PlaysChoice one two (broken disk at found) s = s ≡ damage disk at found
PlaysChoice one two (on disk version generation batches) s = Plays disk (image_of disk one two) generation 0 empty batches s

-- The images of disk one and disk two hold this.
abbrev pub IsHeld : List ℕ → List ℕ → Standing → Type 0
IsHeld one two s = PlaysChoice one two (chosen one two) s

-- the two images hold some world
abbrev pub HoldsAWorld : (one two : List ℕ) → Type 0
HoldsAWorld one two = (w : World) × IsHeld one two (a_world w)
