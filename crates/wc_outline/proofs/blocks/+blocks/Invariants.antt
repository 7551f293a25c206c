use Rattle.std.proofs.Common.{◌≡◌, ◌++◌, take}
use Rattle.std.specs.Prelude.{flat_map}
use Rattle.wc_machine.specs.Outlines.{blocks_in}
use Rattle.wc_outline.specs.Places.{behind, arm_blocks}
use Rattle.wc_outline.proofs.blocks.+blocks.Given as goal

abbrev pub invariant-put_blocks-loop-instr : goal.invariant-put_blocks-loop-instr
invariant-put_blocks-loop-instr l = behind l.found ≡ behind l.fn.found ++ flat_map blocks_in (take l.instr-index l.instrs)

abbrev pub invariant-put_arms-loop-arm : goal.invariant-put_arms-loop-arm
invariant-put_arms-loop-arm l = behind l.found ≡ behind l.fn.found ++ arm_blocks (take l.arm-index l.arm-items)
