use Rattle.std.proofs.Common.{arith}
use Rattle.wc_value.specs.Spelling.{file}
use Rattle.wc_value.proofs.Lengths.{length_folder, no_room, too_long, is_left}
use Rattle.wc_value.proofs.limits.room_after_files.Goals as goal

pub returns-in_err-left : goal.returns-in_err-left
returns-in_err-left c = no_room _ _ _ c.from_residual.ensures (λ h. c.in_err-left.ensures (omega (arith, length_folder c.args.files.now)))

pub returns-in_err-left-2 : goal.returns-in_err-left-2
returns-in_err-left-2 c =
    no_room _ _ _ c.from_residual-in_err-left-2.ensures
    (too_long file _ _ _ _ _ _ _ _ c.loop-name-test.true c.loop-name-item.is c.as_slice-name-items.ensures.value c.loop-name.invariant (length_folder _) c.in_err-left-2.ensures)

pub returns : goal.returns
returns c = is_left file _ _ _ _ _ _ c.loop-name-test.false c.as_slice-name-items.ensures.value c.loop-name.invariant (length_folder _)
