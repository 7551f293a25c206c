use Rattle.std.proofs.Common.{◌≡◌, ◌∷◌, ◌++◌, take, length}
use Rattle.std.specs.Prelude.{flat_map}
use Rattle.wc_fits.specs.Levels.{lengths_in_instr, lengths_in_arm}
use Rattle.wc_fits.proofs.blocks.+lengths.Given as goal

abbrev pub invariant-put_block-loop-instr : goal.invariant-put_block-loop-instr
invariant-put_block-loop-instr l = l.found.items ≡ l.fn.found.items ++ (length l.block.instrs ∷ flat_map lengths_in_instr (take l.instr-index l.instr-items))

abbrev pub invariant-put_arms-loop-arm : goal.invariant-put_arms-loop-arm
invariant-put_arms-loop-arm l = l.found.items ≡ l.fn.found.items ++ flat_map lengths_in_arm (take l.arm-index l.arm-items)
