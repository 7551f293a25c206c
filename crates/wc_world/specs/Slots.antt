-- What is known of each node that a snapshot makes.
use Rattle.std.specs.Prelude.{◌≡◌, ◌&&◌, ℕ, zero, suc, ◌-◌, Bool, true, false, not, if◌then◌else◌, List, [], ◌∷◌, Option, Some, None, slice_get, slice_set}
use Rattle.std.specs.List.{list_all, filter_map}
use Rattle.wc_world.specs.declared.change.Change.{Change}
use Rattle.wc_world.specs.declared.change.Change.TheVariants as change
use Rattle.wc_records.specs.declared.change.Kept.{Kept}
use Rattle.wc_world.specs.declared.slots.Slot.{Slot}
use Rattle.wc_world.specs.declared.slots.Slot.TheVariants as slot
use Rattle.wc_world.specs.World.{World}
use Rattle.wc_world.specs.Accepted.{is_snapshot, is_in_order, keeps_each, made_from, kepts, kept_of}

-- what is known of the node that a change makes, before the Kepts
abbrev pub slot_in : Change → Option Slot
slot_in (change.Library l names) = None
slot_in (change.Data v) = Some slot.Other
slot_in (change.Process n) = Some slot.Made
slot_in (change.Link l) = None
slot_in (change.Set s) = None
slot_in (change.Count n) = None
slot_in (change.Kept k) = None

-- the slots of the nodes that a snapshot makes, in their order
abbrev pub slots_in : List Change → List Slot
slots_in = filter_map slot_in

-- whether a slot is that of a process that the batch made
abbrev pub is_made : Slot → Bool
is_made slot.Other = false
is_made slot.Made = true
is_made (slot.Kept k) = false

-- whether there is a slot, of a process that the batch made
abbrev pub is_made_in : Option Slot → Bool
is_made_in None = false
is_made_in (Some s) = is_made s

-- the node of this number is a process that was made and not kept
abbrev pub made_at : ℕ → List Slot → Bool
made_at zero slots = false
made_at (suc place) slots = is_made_in (slice_get slots place)

-- what a snapshot keeps, where a slot has it
abbrev pub kept_in : Option Slot → Option Kept
kept_in None = None
kept_in (Some slot.Other) = None
kept_in (Some slot.Made) = None
kept_in (Some (slot.Kept k)) = Some k

-- what a snapshot keeps of the process whose node has this number, counted from 1
abbrev pub kept_at : ℕ → List Slot → Option Kept
kept_at zero slots = None
kept_at (suc place) slots = kept_in (slice_get slots place)

-- The slots with a Kept for each process, where each Kept is of another process that was made and all are kept.
abbrev pub filled : List Slot → List Kept → Option (List Slot)
filled slots [] = if list_all (λ s. not (is_made s)) slots then Some slots else None
filled slots (k ∷ ks) = if made_at k.pid slots then filled (slice_set slots (k.pid - 1) (slot.Kept k)) ks else None

-- Where the changes are a snapshot's, the slots tell the Kept of each process.
abbrev pub AreSlotsOf : List Change → Option (List Slot) → Type 0
AreSlotsOf cs None = is_in_order cs && keeps_each (made_from 1 cs) (kepts cs) ≡ false
AreSlotsOf cs (Some slots) = (is_in_order cs && keeps_each (made_from 1 cs) (kepts cs) ≡ true) × ((pid : ℕ) → kept_of pid (kepts cs) ≡ kept_at pid slots)

-- The same where the changes are a snapshot for this world.
abbrev pub AreSlotsIn : World → List Change → Option (List Slot) → Type 0
AreSlotsIn w cs None = is_snapshot w cs ≡ false
AreSlotsIn w cs (Some slots) = (is_snapshot w cs ≡ true) × ((pid : ℕ) → kept_of pid (kepts cs) ≡ kept_at pid slots)
