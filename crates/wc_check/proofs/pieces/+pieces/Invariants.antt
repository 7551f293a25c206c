use Rattle.std.proofs.Common.{◌≡◌, ◌++◌, take}
use Rattle.std.specs.Prelude.{flat_map}
use Rattle.wc_check.specs.Flat.{seen_pieces, pieces_of_instr, pieces_of_arm}
use Rattle.wc_check.proofs.pieces.+pieces.Given as goal

abbrev pub invariant-put_block-loop-instr : goal.invariant-put_block-loop-instr
invariant-put_block-loop-instr l = seen_pieces l.found.items ≡ seen_pieces l.fn.found.items ++ flat_map pieces_of_instr (take l.instr-index l.instr-items)

abbrev pub invariant-put_arms-loop-arm : goal.invariant-put_arms-loop-arm
invariant-put_arms-loop-arm l = seen_pieces l.found.items ≡ seen_pieces l.fn.found.items ++ flat_map pieces_of_arm (take l.arm-index l.arm-items)
