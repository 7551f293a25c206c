use Rattle.std.proofs.Common.{◌≡◌, suc, ◌+◌, length, drop}
use Rattle.wc_outline.specs.Places.{first_number, picked_from, if_blocks, Fit}
use Rattle.wc_outline.proofs.instructions.pick.Given as goal

abbrev pub invariant-loop-arm : goal.invariant-loop-arm
invariant-loop-arm l =
    record {
      picks : picked_from (suc l.place.frame.block + length l.passed) (drop l.arm-index l.arm-items) l.other l.env
          ≡ picked_from (first_number l.place.frame l.place.front.now) l.arm-items l.other l.env;
      fit : Fit (suc l.place.frame.block + length l.passed) (length (if_blocks (drop l.arm-index l.arm-items) l.other));
    }
