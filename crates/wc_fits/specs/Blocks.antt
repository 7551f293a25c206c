-- The blocks of an outline, numbered in the order of their opening braces. The outline itself is block 0, and the braces
-- of steps don't count.
use Rattle.std.specs.Prelude.{ℕ, List, [], ◌∷◌, ◌++◌, length, flat_map, Option, Some, None}
use Rattle.wc_syntax.specs.declared.outline.Block.{Block, Block-F, fold-Block}
use Rattle.wc_syntax.specs.declared.outline.Arm.{Arm-F}
use Rattle.wc_syntax.specs.declared.outline.Instr.TheOpen.{Instr-F}
use Rattle.wc_syntax.specs.declared.definition.Definition.{Definition}
use Rattle.wc_syntax.specs.declared.definition.Definition.TheVariants as definition

-- the lengths of the blocks of an `else`, where there is one
abbrev pub other_lengths : Option (List ℕ) → List ℕ
other_lengths None = []
other_lengths (Some b) = b

-- the lengths of the blocks in an instruction
abbrev pub instr_lengths : Instr-F (List ℕ) (List ℕ) (List ℕ) → List ℕ
instr_lengths (Instr-F.Step s) = []
instr_lengths (Instr-F.If at arms other) = flat_map (λ a. a) arms ++ other_lengths other
instr_lengths (Instr-F.While at e b) = b
instr_lengths (Instr-F.Return at n) = []

-- the lengths of the blocks in an arm
abbrev pub arm_lengths : Arm-F (List ℕ) (List ℕ) (List ℕ) → List ℕ
arm_lengths a = a.block

-- the length of a block, and those of the blocks in it
abbrev pub level_lengths : Block-F (List ℕ) (List ℕ) (List ℕ) → List ℕ
level_lengths b = length b.instrs ∷ flat_map (λ i. i) b.instrs

-- how many instructions each block has, by number
abbrev pub block_lengths : Block → List ℕ
block_lengths = fold-Block (List ℕ) (List ℕ) (List ℕ) instr_lengths arm_lengths level_lengths

-- only work chains have an outline
abbrev pub lengths_of : Definition → List ℕ
lengths_of (definition.Function f) = []
lengths_of (definition.Job j) = []
lengths_of (definition.Chain c) = block_lengths c.outline
