use Rattle.std.proofs.Common.{◌≡◌, ◌+◌, length, take}
use Rattle.std.specs.Prelude.{flat_map}
use Rattle.wc_value.specs.Spelling.{spelling, pair_of}
use Rattle.wc_value.proofs.limits.+room.Given as goal

abbrev pub invariant-room_after_values-loop-item : goal.invariant-room_after_values-loop-item
invariant-room_after_values-loop-item l = l.left + (5 + length (flat_map spelling (take l.item-index l.item-items))) ≡ l.room

abbrev pub invariant-room_after_fields-loop-name : goal.invariant-room_after_fields-loop-name
invariant-room_after_fields-loop-name l = l.left + (5 + length (flat_map pair_of (take l.name-index l.name-items))) ≡ l.room
