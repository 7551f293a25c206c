-- One advance of a work chain: the one instruction that comes next.
use Rattle.std.specs.Prelude.{ℕ, suc, ◌+◌, nat_le, Bool, true, false, if◌then◌else◌, List, [], ◌∷◌, length, take, reverse, Option, Some, None, slice_get}
use Rattle.wc_value.specs.declared.process.ProcessState.{ProcessState}
use Rattle.wc_value.specs.declared.process.ProcessState.TheVariants.{Finished, Excepted}
use Rattle.wc_syntax.specs.declared.definition.Chain.{Chain}
use Rattle.wc_syntax.specs.declared.definition.Definition.{Definition}
use Rattle.wc_syntax.specs.declared.expression.Expr.{Expr}
use Rattle.wc_syntax.specs.declared.outline.Arm.{Arm, out-Arm}
use Rattle.wc_syntax.specs.declared.outline.Block.{Block}
use Rattle.wc_syntax.specs.declared.outline.Instr.{Instr, out-Instr}
use Rattle.wc_syntax.specs.declared.outline.Instr.TheOpen.{Instr-F}
use Rattle.wc_state.specs.declared.environment.Env.{Env}
use Rattle.wc_state.specs.declared.record.Checkpoint.{Checkpoint}
use Rattle.wc_state.specs.declared.record.Frame.{Frame}
use Rattle.wc_expression.specs.declared.outcome.Outcome.{Outcome}
use Rattle.wc_expression.specs.declared.outcome.Outcome.TheVariants.{Gives, Faults}
use Rattle.wc_expression.specs.Val.{holds}
use Rattle.wc_semantics.specs.Meaning.{kinds_of, takes_of}
use Rattle.wc_semantics.specs.Run.{picked, returned}
use Rattle.wc_semantics.specs.Tables.{Label}
use Rattle.wc_machine.specs.Outlines.{Blocks, blocks, block_of, blocks_in}
use Rattle.wc_machine.specs.Steps.{Call, Stepped, stops, makes, statements}

-- What an advance comes to: the chain goes on, with a loop turn or without, or it submits calls, or it ends.
pub data Advanced : Type 0 where
  goes : Checkpoint → Advanced
  loops : Checkpoint → Advanced
  submits : Checkpoint → List Call → Advanced
  ends : ProcessState → List (Label × ℕ) → Advanced

-- ---- frames, the innermost first

-- whether a frame stands at the end of its block
abbrev pub is_done : Blocks → Frame → Bool
is_done bs f = nat_le (length (block_of (slice_get bs f.block))) f.next

-- without those at their block's end, but for the last
abbrev pub popped : Blocks → List Frame → List Frame
popped bs [] = []
popped bs (f ∷ []) = f ∷ []
popped bs (f ∷ (g ∷ fs)) = if is_done bs f then popped bs (g ∷ fs) else f ∷ (g ∷ fs)

-- a frame at the next instruction of its block
abbrev pub past : Frame → Frame
past f = record { block = f.block; next = suc f.next }

-- a frame at the first instruction of a block
abbrev pub at_head : ℕ → Frame
at_head block = record { block = block; next = 0 }

-- how many blocks instructions have
abbrev pub block_count : List Instr → ℕ
block_count [] = 0
block_count (i ∷ is) = length (blocks_in i) + block_count is

-- the number of the first block of the instruction at a place: the blocks of those before it come first
abbrev pub first_block : Blocks → Frame → ℕ
first_block bs f = suc f.block + block_count (take f.next (block_of (slice_get bs f.block)))

-- the conditions of the arms with the numbers of their blocks, where the first has this number
abbrev pub numbered_arms : ℕ → List Arm → List (Expr × Option ℕ)
numbered_arms n [] = []
numbered_arms n (a ∷ rest) = ((out-Arm a).condition, Some n) ∷ numbered_arms (n + length (blocks (out-Arm a).block)) rest

-- the number of the block that follows those of the arms
abbrev pub after_arms : ℕ → List Arm → ℕ
after_arms n [] = n
after_arms n (a ∷ rest) = after_arms (n + length (blocks (out-Arm a).block)) rest

-- the number of an `else` block, where there is one
abbrev pub other_number : ℕ → Option Block → Option ℕ
other_number n None = None
other_number n (Some b) = Some n

-- the frames once a block is entered, or as they were
abbrev pub entered : Option ℕ → List Frame → List Frame
entered None fs = fs
entered (Some block) fs = at_head block ∷ fs

-- ---- the next instruction

module _ (library : List Definition) (k : Chain) (depth : ℕ) (env : Env) (c : Checkpoint) where
  -- the checkpoint at these frames, the innermost first
  abbrev pub at_frames : List Frame → Checkpoint
  at_frames fs = record { frames = reverse fs; ctx = c.ctx; awaiting = c.awaiting; calls = c.calls; outputs = c.outputs }

  -- where an `if` leads: into the block that was picked, past it, or to an exception
  abbrev pub chosen : Outcome (Option ℕ) → List Frame → Advanced
  chosen (Faults r) fs = ends (Excepted r) c.outputs
  chosen (Gives block) fs = goes (at_frames (entered block fs))

  -- where a `while` leads: into its block as a turn of the loop, past it, or to an exception
  abbrev pub turned : Outcome Bool → (inside outside : List Frame) → Advanced
  turned (Faults r) inside outside = ends (Excepted r) c.outputs
  turned (Gives true) inside outside = loops (at_frames inside)
  turned (Gives false) inside outside = goes (at_frames outside)

  -- a step without calls goes on, and one with calls waits for them
  abbrev pub after_step : Stepped → List Frame → Advanced
  after_step (stops s outputs) fs = ends s outputs
  after_step (makes ctx outputs []) fs = goes (record { frames = reverse fs; ctx = ctx; awaiting = c.awaiting; calls = c.calls; outputs = outputs })
  after_step (makes ctx outputs (x ∷ xs)) fs =
      submits (record { frames = reverse fs; ctx = ctx; awaiting = c.awaiting; calls = c.calls; outputs = outputs }) (x ∷ xs)

  -- what one instruction does in an advance, at its frame and those around it
  abbrev pub done : Blocks → Instr-F Instr Arm Block → Frame → List Frame → Advanced
  done bs (Instr-F.Step s) f fs =
      after_step (statements c.calls (nat_le 16 depth) (takes_of library) (kinds_of k.head.outputs) s.stmts
      (record { env = env; ctx = c.ctx; outputs = c.outputs; calls = [] })) (past f ∷ fs)
  done bs (Instr-F.If at arms other) f fs =
      chosen (picked (numbered_arms (first_block bs f) arms) (other_number (after_arms (first_block bs f) arms) other) env) (past f ∷ fs)
  done bs (Instr-F.While at e b) f fs = turned (holds e env) (at_head (first_block bs f) ∷ (f ∷ fs)) (past f ∷ fs)
  done bs (Instr-F.Return at n) f fs = ends (Finished (returned n)) c.outputs

  -- at the end of the outline the chain ends with 0
  abbrev pub does : Blocks → Option Instr → Frame → List Frame → Advanced
  does bs None f fs = ends (Finished 0) c.outputs
  does bs (Some i) f fs = done bs (out-Instr i) f fs

  -- one advance at the innermost frame that isn't at its end; without one the chain has finished
  abbrev pub at_innermost : Blocks → List Frame → Advanced
  at_innermost bs [] = ends (Finished 0) c.outputs
  at_innermost bs (f ∷ fs) = does bs (slice_get (block_of (slice_get bs f.block)) f.next) f fs

  -- Frames at their block's end are left, and the one instruction that comes next is evaluated.
  abbrev pub advance : Advanced
  advance = at_innermost (blocks k.outline) (popped (blocks k.outline) (reverse c.frames))
