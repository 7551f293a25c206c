use Rattle.std.proofs.Common.{◌≡◌, not, drop}
use Rattle.std.specs.List.{list_all}
use Rattle.wc_world.specs.declared.slots.Slot.{Slot}
use Rattle.wc_world.specs.Slots.{is_made}
use Rattle.wc_world.proofs.slots.are_kept.Given as goal

abbrev pub invariant-loop-slot : goal.invariant-loop-slot
invariant-loop-slot l = list_all (λ (s : Slot). not (is_made s)) (drop l.slot-index l.slots) ≡ list_all (λ (s : Slot). not (is_made s)) l.slots
