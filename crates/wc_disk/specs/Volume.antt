-- What the calls on a disk make of the bytes that it began with, and what a crash may leave of them.
use Rattle.std.specs.Prelude.{◌≡◌, ◌<◌, ◌≤◌, ◌⊎◌, ◌+◌, ℕ, List, [], ◌∷◌, length, take, min, max, slice_index, Option, Some, None, Vec, vec_len, vec_capacity}
use Rattle.std.specs.declared.alloc.Global.{Global}
use Rattle.wc_disk.specs.declared.calls.Call.{Call}
use Rattle.wc_disk.specs.declared.calls.Call.TheVariants.{Write, Cut, Sync}
use Rattle.wc_disk.specs.Steps.{overwritten}

-- a write of `count` bytes since the last sync, at a disk of `end` bytes
pub record Pending : Type 0 where
  pub at : ℕ
  pub count : ℕ
  pub end : ℕ

-- what a read gives, what it gave at the last sync, and the least and the greatest length and the writes since
pub record Volume : Type 0 where
  pub seen : List ℕ
  pub synced : List ℕ
  pub least : ℕ
  pub greatest : ℕ
  pub pending : List Pending

-- all of it is on the disk
abbrev pub settled : List ℕ → Volume
settled bytes = record { seen = bytes; synced = bytes; least = length bytes; greatest = length bytes; pending = [] }

-- other bytes are there, and nothing was synced
abbrev pub changed : Volume → List ℕ → List Pending → Volume
changed v bytes pending = record {
  seen = bytes;
  synced = v.synced;
  least = min v.least (length bytes);
  greatest = max v.greatest (length bytes);
  pending = pending;
}

-- what a call makes of a volume
abbrev pub after_call : Call → Volume → Volume
after_call (Write at bytes) v = changed v (overwritten at bytes v.seen) (record { at = at; count = length bytes; end = length v.seen } ∷ v.pending)
after_call (Cut len) v = changed v (take len v.seen) v.pending
after_call Sync v = settled v.seen

-- what a call makes of the bytes that a read gives
abbrev pub bytes_after : Call → List ℕ → List ℕ
bytes_after (Write at bytes) old = overwritten at bytes old
bytes_after (Cut len) old = take len old
bytes_after Sync old = old

-- the first call stands first
abbrev pub after_calls : List Call → Volume → Volume
after_calls [] v = v
after_calls (c ∷ cs) v = after_calls cs (after_call c v)

-- the byte at p stands outside the written range, and not past the end
abbrev pub Spares : ℕ → Pending → Type 0
Spares p w = ((p < w.at) ⊎ (w.at + w.count ≤ p)) × (p < w.end)

-- no pending write touches a place
abbrev pub AllSpare : ℕ → List Pending → Type 0
AllSpare p [] = Unit {0}
AllSpare p (w ∷ ws) = Spares p w × AllSpare p ws

-- A crash may leave this image: its length is any from the least to the greatest since the last sync, and each
-- byte that no write since then touched is as it was at the sync.
pub record IsImage (v : Volume) (image : List ℕ) : Type 0 where
  pub least : v.least ≤ length image
  pub greatest : length image ≤ v.greatest
  pub stays : (p : ℕ) → p < length image → p < length v.synced → AllSpare p v.pending → slice_index image p ≡ slice_index v.synced p

-- what a disk holds now, where a change has made the first copy
abbrev pub present : List ℕ → Option (Vec ℕ Global) → List ℕ
present begun None = begun
present begun (Some bytes) = bytes.items

-- the copy is made, and has room for so many bytes more
abbrev pub HasRoom : Option (Vec ℕ Global) → ℕ → Type 0
HasRoom None more = ⊥
HasRoom (Some bytes) more = vec_len bytes + more ≤ vec_capacity bytes
