-- What the commands of a store do: from what the two disks read as at entry to what they read as at exit, with the reply.
use Rattle.std.specs.Prelude.{◌≡◌, ◌⊎◌, ◌≤◌, ℕ, ◌+◌, List, length, Option, Some, None}
use Rattle.wc_journal.specs.declared.error.Found.{Found}
use Rattle.wc_journal.specs.declared.error.Found.TheVariants.{Byte, End}
use Rattle.wc_journal.specs.declared.journal.Journal.{Journal}
use Rattle.wc_journal.specs.Reading.{Placed, end_of}
use Rattle.wc_state.specs.declared.record.Limits.{Limits}
use Rattle.wc_state.specs.declared.record.What.{What}
use Rattle.wc_world.specs.World.{World, empty}
use Rattle.wc_store.specs.declared.error.StoreError.TheVariants.{Full}
use Rattle.wc_store.specs.declared.place.Place.{Place}
use Rattle.wc_store.specs.declared.place.Place.TheVariants.{One}
use Rattle.wc_store.specs.Places.{number_of, its}
use Rattle.wc_store.specs.Stores.{other, packed_image}
use Rattle.wc_store.specs.Choices.{chosen, on}
use Rattle.wc_store.specs.Held.{Standing, IsHeld, nothing, damage, a_world}
use Rattle.wc_store.specs.Prepared.{HasGeneration}
use Rattle.wc_store.specs.Refusals.{RefusesPack, byte_limit}
use Rattle.wc_report.specs.Lines.{initialised_text, packed_text, damaged_text, full_text}
use Rattle.wc_plan.specs.declared.reply.Reply.{Reply}
use Rattle.wc_plan.specs.declared.status.Cause.TheVariants as cause
use Rattle.wc_plan.specs.declared.status.Status.TheVariants as status
use Rattle.wc_plan.specs.Replies.{refuses, prints}

-- ---- what two disks read as

-- the bytes of disk one and of disk two
abbrev pub Images : Type 0
Images = List ℕ × List ℕ

-- two images hold this (`IsHeld`)
abbrev pub Hold : Images → Standing → Type 0
Hold images s = IsHeld images.0 images.1 s

-- The images hold a store that is kept by this journal.
pub record HasJournal (images : Images) (journal : Journal) : Type 0 where
  pub place : Place
  pub batches : Placed
  pub chooses : chosen images.0 images.1 ≡ on (number_of place) journal.version journal.generation batches
  pub end : journal.end ≡ end_of batches

-- ---- limits

-- the greatest limits that may be set
abbrev pub greatest_limits : Limits
greatest_limits = record { max_nodes = 8000000; max_bytes = 2147483648; poll_ms = 600000 }

-- The world has no more nodes, and the journal that keeps it in the images no more bytes, than the limits say.
pub record Fits (limits : Limits) (images : Images) (w : World) : Type 0 where
  pub nodes : length w.nodes ≤ limits.max_nodes
  pub journal : Journal
  pub kept : HasJournal images journal
  pub bytes : journal.end + 1 ≤ byte_limit journal.version limits.max_bytes

-- ---- refusals

-- the byte that was found, or none at the end
abbrev pub byte_of : Found → Option ℕ
byte_of (Byte b) = Some b
byte_of End = None

-- the reply of a damaged store: the disk, the place, and the byte that was found, or none at the end
abbrev pub is_damaged : (disk at : ℕ) → Found → Reply
is_damaged disk at found = record { status = status.Damaged disk at (byte_of found); text = damaged_text disk at (byte_of found) }

-- the reply of a store that would be too full: of what, how many, and the limit
abbrev pub is_full : What → (count limit : ℕ) → Reply
is_full what count limit = record { status = status.Full what count limit; text = full_text what count limit }

-- ---- a journal that goes on

-- The journal that is held goes on on the same disk, in its version and its generation, and the other disk reads as before.
pub record GoesOn (before after : Images) (journal next : Journal) : Type 0 where
  pub was : HasJournal before journal
  pub is : HasJournal after next
  pub place : is.place ≡ was.place
  pub version : next.version ≡ journal.version
  pub generation : next.generation ≡ journal.generation
  pub rest : other was.place after.0 after.1 ≡ other was.place before.0 before.1

-- ---- init

-- The images hold the empty world, by a journal of version 2 and generation 1 on disk one.
pub record IsBegun (after : Images) : Type 0 where
  pub held : Hold after (a_world empty)
  pub journal : Journal
  pub kept : HasJournal after journal
  pub place : kept.place ≡ One
  pub version : journal.version ≡ 2
  pub generation : journal.generation ≡ 1

-- a store is made on disk one, and disk two reads as before
abbrev pub InitAt : Images → Standing → Images → Reply → Type 0
InitAt before nothing after r = IsBegun after × (after.1 ≡ before.1) × (r ≡ prints initialised_text)
InitAt before (damage disk at found) after r = (after ≡ before) × (r ≡ is_damaged disk at found)
InitAt before (a_world w) after r = (after ≡ before) × (r ≡ refuses cause.StoreExists)

-- an empty store is made where there is none
abbrev pub Inits : Images → Images → Reply → Type 0
Inits before after r = (s : Standing) × Hold before s × InitAt before s after r

-- ---- commands on a store

-- without a store, or where a disk is damaged, the disks read as before; on a world this is done
abbrev pub AtStore : Images → (World → Images → Reply → Type 0) → Standing → Images → Reply → Type 0
AtStore before does nothing after r = (after ≡ before) × (r ≡ refuses cause.NoStore)
AtStore before does (damage disk at found) after r = (after ≡ before) × (r ≡ is_damaged disk at found)
AtStore before does (a_world w) after r = does w after r

-- A command on a store: where nothing or damage was held, that is told, and the disks read as before
abbrev pub OnStore : (Images → World → Images → Reply → Type 0) → Images → Images → Reply → Type 0
OnStore does before after r = (s : Standing) × Hold before s × AtStore before (does before) s after r

-- The generation and the snapshot of the world are within the limits. The other disk than the one at the place reads as exactly the bytes of a
-- journal of the next generation with the snapshot alone, which the images then hold, and the disk at the place reads as before.
pub record IsPacked (place : Place) (journal : Journal) (w : World) (before after : Images) (r : Reply) : Type 0 where
  pub fits : HasGeneration journal.generation w
  pub still : its place after.0 after.1 ≡ its place before.0 before.1
  pub written : other place after.0 after.1 ≡ packed_image (journal.generation + 1) w
  pub next : Journal
  pub kept : HasJournal after next
  pub generation : next.generation ≡ journal.generation + 1
  pub reply : r ≡ prints (packed_text next.generation)

-- the generation would be too great, or else the snapshot of the world too long
pub record IsTooFull (journal : Journal) (w : World) (r : Reply) : Type 0 where
  pub what : What
  pub count : ℕ
  pub limit : ℕ
  pub refused : RefusesPack journal.generation w (Full what count limit)
  pub reply : r ≡ is_full what count limit

-- `pack`: the same world is kept by a journal of the next generation, or nothing is written
abbrev pub Packs : Images → World → Images → Reply → Type 0
Packs before w after r = Hold after (a_world w) × ((journal : Journal) × (h : HasJournal before journal) × (IsPacked h.place journal w before after r ⊎ ((after ≡ before) × IsTooFull journal w r)))
