-- The instructions that the frames of a checkpoint leave.
use Rattle.std.specs.Prelude.{List, [], ◌∷◌, ◌++◌, flat_map, map, drop, Option, Some, None, slice_get}
use Rattle.std.specs.Option.{option_map}
use Rattle.wc_syntax.specs.declared.outline.Block.{Block, Block-F, fold-Block, roll-Block}
use Rattle.wc_syntax.specs.declared.outline.Arm.{Arm, Arm-F, roll-Arm}
use Rattle.wc_syntax.specs.declared.outline.Instr.{Instr, fold-Instr, roll-Instr}
use Rattle.wc_syntax.specs.declared.outline.Instr.TheOpen.{Instr-F}
use Rattle.wc_state.specs.declared.record.Frame.{Frame}

-- an instruction, an arm or a block, with the blocks in it in the order of their opening braces, each as its list of instructions
abbrev pub Blocks : Type 0
Blocks = List (List Instr)

-- an instruction with the blocks inside it
abbrev pub InstrIn : Type 0
InstrIn = Instr × Blocks

-- an arm with the blocks inside it
abbrev pub ArmIn : Type 0
ArmIn = Arm × Blocks

-- a block with the blocks inside it, itself the first
abbrev pub BlockIn : Type 0
BlockIn = Block × Blocks

-- the blocks of an `else`, where there is one
abbrev pub other_blocks : Option BlockIn → Blocks
other_blocks None = []
other_blocks (Some b) = b.1

-- an instruction with the blocks inside it, from those of its parts
abbrev pub instr_in : Instr-F InstrIn ArmIn BlockIn → InstrIn
instr_in (Instr-F.Step s) = (roll-Instr (Instr-F.Step s), [])
instr_in (Instr-F.If at arms other) =
    (roll-Instr (Instr-F.If at (map (λ a. a.0) arms) (option_map (λ b. b.0) other)), flat_map (λ a. a.1) arms ++ other_blocks other)
instr_in (Instr-F.While at e b) = (roll-Instr (Instr-F.While at e b.0), b.1)
instr_in (Instr-F.Return at n) = (roll-Instr (Instr-F.Return at n), [])

-- an arm with the blocks inside it, from those of its block
abbrev pub arm_in : Arm-F InstrIn ArmIn BlockIn → ArmIn
arm_in a = (roll-Arm (record { condition = a.condition; block = a.block.0 }), a.block.1)

-- a block with its instructions in front of the blocks inside these
abbrev pub block_in : Block-F InstrIn ArmIn BlockIn → BlockIn
block_in b = (roll-Block (record { instrs = map (λ i. i.0) b.instrs }), map (λ i. i.0) b.instrs ∷ flat_map (λ i. i.1) b.instrs)

-- the blocks in an instruction
abbrev pub blocks_in : Instr → Blocks
blocks_in i = (fold-Instr InstrIn ArmIn BlockIn instr_in arm_in block_in i).1

-- the blocks of an outline by number, the outline itself being block 0
abbrev pub blocks : Block → Blocks
blocks outline = (fold-Block InstrIn ArmIn BlockIn instr_in arm_in block_in outline).1

-- the instructions of a block, none where there is no such block
abbrev pub block_of : Option (List Instr) → List Instr
block_of None = []
block_of (Some is) = is

-- what is left of a frame's block
abbrev pub left_in : Blocks → Frame → List Instr
left_in bs f = drop f.next (block_of (slice_get bs f.block))

-- what is left of frames, the innermost, which stands last, first
abbrev pub left : Blocks → List Frame → List Instr
left bs [] = []
left bs (f ∷ fs) = left bs fs ++ left_in bs f
