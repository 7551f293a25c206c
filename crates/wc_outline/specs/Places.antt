-- Where a work chain stands in its outline.
use Rattle.std.specs.Prelude.{ℕ, suc, ◌+◌, ◌^◌, ◌<◌, ◌≤◌, List, [], ◌∷◌, ◌++◌, flat_map, map, take, reverse, Option, Some, None, option_map, slice_get}
use Rattle.std.specs.Borrow.{Bor}
use Rattle.wc_syntax.specs.declared.definition.Chain.{Chain}
use Rattle.wc_syntax.specs.declared.definition.Definition.{Definition}
use Rattle.wc_syntax.specs.declared.definition.Definition.TheVariants as definition
use Rattle.wc_syntax.specs.declared.outline.Arm.{Arm, out-Arm}
use Rattle.wc_syntax.specs.declared.outline.Block.{Block}
use Rattle.wc_syntax.specs.declared.outline.Instr.{Instr}
use Rattle.wc_state.specs.declared.environment.Env.{Env}
use Rattle.wc_state.specs.declared.record.Frame.{Frame}
use Rattle.wc_expression.specs.declared.outcome.Outcome.{Outcome}
use Rattle.wc_semantics.specs.Run.{picked}
use Rattle.wc_machine.specs.Advances.{block_count, numbered_arms, after_arms, other_number}
use Rattle.wc_machine.specs.Outlines.{Blocks, blocks, block_of}
use Rattle.wc_outline.specs.declared.frames.Place.{Place}

-- what is behind the references
abbrev pub behind : {A : Type 0} → List (Bor A) → List A
behind = map (λ r. r.now)

-- the blocks in the blocks of arms
abbrev pub arm_blocks : List Arm → Blocks
arm_blocks = flat_map (λ a. blocks (out-Arm a).block)

-- the blocks of an `else`, where there is one
abbrev pub other_blocks : Option Block → Blocks
other_blocks None = []
other_blocks (Some b) = blocks b

-- the blocks in an `if`
abbrev pub if_blocks : List Arm → Option Block → Blocks
if_blocks arms other = arm_blocks arms ++ other_blocks other

-- so many numbers from this one on have 32 bits
abbrev pub Fit : (first count : ℕ) → Type 0
Fit first count = 0 < count → first + count ≤ 2 ^ 32

-- the instruction that comes next, those before it in its block, its frame, and the frames around that one, the outermost first
pub record Standing : Type 0 where
  pub instr : Instr
  pub front : List Instr
  pub frame : Frame
  pub outer : List Frame

-- where a chain stands, as contracts see it: its instruction, those in front of it, its frame and the frames around
abbrev pub seen : Place → Standing
seen p = record { instr = p.instr.now; front = p.front.now; frame = p.frame; outer = p.outer.now }

-- the instructions in front of the one at which a frame stands
abbrev pub front_of : Blocks → Frame → List Instr
front_of bs f = take f.next (block_of (slice_get bs f.block))

-- where a chain stands with these frames, the innermost first; nowhere at the end of its outline
abbrev pub standing : Blocks → List Frame → Option Standing
standing bs [] = None
standing bs (f ∷ fs) =
    option_map (λ i. record { instr = i; front = front_of bs f; frame = f; outer = reverse fs }) (slice_get (block_of (slice_get bs f.block)) f.next)

-- the number of the first block inside the instruction that stands at a frame behind these
abbrev pub first_number : Frame → List Instr → ℕ
first_number f front = suc f.block + block_count front

-- the number of the block that an `if` enters, if it enters one, where the first block in it has this number
abbrev pub picked_from : ℕ → List Arm → Option Block → Env → Outcome (Option ℕ)
picked_from n arms other env = picked (numbered_arms n arms) (other_number (after_arms n arms) other) env

-- a definition that is a work chain
abbrev pub chain_of : Option Definition → Option Chain
chain_of None = None
chain_of (Some (definition.Function f)) = None
chain_of (Some (definition.Job j)) = None
chain_of (Some (definition.Chain k)) = Some k
