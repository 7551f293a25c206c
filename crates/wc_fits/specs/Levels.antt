-- The lengths of the blocks in an instruction and in an arm.
use Rattle.std.specs.Prelude.{ℕ, List}
use Rattle.wc_syntax.specs.declared.outline.Arm.{Arm, fold-Arm}
use Rattle.wc_syntax.specs.declared.outline.Instr.{Instr, fold-Instr}
use Rattle.wc_fits.specs.Blocks.{instr_lengths, arm_lengths, level_lengths}

-- the lengths of the blocks in an instruction, in their order
abbrev pub lengths_in_instr : Instr → List ℕ
lengths_in_instr = fold-Instr (List ℕ) (List ℕ) (List ℕ) instr_lengths arm_lengths level_lengths

-- the lengths of the blocks in an arm, in their order
abbrev pub lengths_in_arm : Arm → List ℕ
lengths_in_arm = fold-Arm (List ℕ) (List ℕ) (List ℕ) instr_lengths arm_lengths level_lengths
