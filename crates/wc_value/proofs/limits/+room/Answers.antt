use Rattle.wc_value.specs.Spelling.{spelling, pair_of}
use Rattle.wc_value.proofs.Lengths.{length_list, length_dict, no_room, too_long, is_left}
use Rattle.wc_value.proofs.limits.+room.Goals as goal

pub room_after_values-returns-in_err-left-2 : goal.room_after_values-returns-in_err-left-2
room_after_values-returns-in_err-left-2 t c =
    no_room _ _ _ c.from_residual-in_err-left-2.ensures
    (too_long spelling _ _ _ _ _ _ _ _ c.loop-item-test.true c.item-item.is c.as_slice-item-items.ensures c.loop-item.invariant (length_list _) c.in_err-left-2.ensures)

pub room_after_values-returns : goal.room_after_values-returns
room_after_values-returns t c = is_left spelling _ _ _ _ _ _ c.loop-item-test.false c.as_slice-item-items.ensures c.loop-item.invariant (length_list _)

pub room_after_fields-returns-in_err-left-2 : goal.room_after_fields-returns-in_err-left-2
room_after_fields-returns-in_err-left-2 t c =
    no_room _ _ _ c.from_residual-in_err-left-2.ensures
    (too_long pair_of _ _ _ _ _ _ _ _ c.loop-name-test.true c.loop-name-item.is c.as_slice-name-items.ensures.value c.loop-name.invariant (length_dict _) c.in_err-left-2.ensures)

pub room_after_fields-returns : goal.room_after_fields-returns
room_after_fields-returns t c = is_left pair_of _ _ _ _ _ _ c.loop-name-test.false c.as_slice-name-items.ensures.value c.loop-name.invariant (length_dict _)
