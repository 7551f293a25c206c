-- An advance keeps how many calls were made before.
use Rattle.std.proofs.Common.{◌≡◌, ℕ, List, [], ◌∷◌, Bool, true, false, Option, Some, None, refl, reverse}
use Rattle.std.specs.Prelude.{slice_get, nat_le}
use Rattle.wc_syntax.specs.declared.definition.Chain.{Chain}
use Rattle.wc_syntax.specs.declared.definition.Definition.{Definition}
use Rattle.wc_syntax.specs.declared.outline.Arm.{Arm}
use Rattle.wc_syntax.specs.declared.outline.Block.{Block}
use Rattle.wc_syntax.specs.declared.outline.Instr.{Instr, out-Instr}
use Rattle.wc_syntax.specs.declared.outline.Instr.TheOpen.{Instr-F}
use Rattle.wc_state.specs.declared.environment.Env.{Env}
use Rattle.wc_state.specs.declared.record.Checkpoint.{Checkpoint}
use Rattle.wc_state.specs.declared.record.Frame.{Frame}
use Rattle.wc_expression.specs.declared.outcome.Outcome.{Outcome}
use Rattle.wc_expression.specs.declared.outcome.Outcome.TheVariants.{Gives, Faults}
use Rattle.wc_expression.specs.Val.{holds}
use Rattle.wc_semantics.specs.Meaning.{kinds_of, takes_of}
use Rattle.wc_semantics.specs.Run.{picked}
use Rattle.wc_machine.specs.Advances.{Advanced, goes, loops, submits, ends, past, at_head, first_block, numbered_arms, after_arms, other_number, chosen, turned, after_step, done, does, at_innermost, advance, popped}
use Rattle.wc_machine.specs.Outlines.{Blocks, blocks, block_of}
use Rattle.wc_machine.specs.Steps.{Stepped, stops, makes, statements}

abbrev pub KeepsCount : ℕ → Advanced → Type 0
KeepsCount n (goes d) = d.calls ≡ n
KeepsCount n (loops d) = d.calls ≡ n
KeepsCount n (submits d calls) = d.calls ≡ n
KeepsCount n (ends s outputs) = Unit {0}

module _ (library : List Definition) (k : Chain) (depth : ℕ) (env : Env) (c : Checkpoint) where
  chosen_keeps : (o : Outcome (Option ℕ)) (fs : List Frame) → KeepsCount c.calls (chosen library k depth env c o fs)
  chosen_keeps (Faults r) fs = tt
  chosen_keeps (Gives block) fs = refl

  turned_keeps : (o : Outcome Bool) (inside outside : List Frame) → KeepsCount c.calls (turned library k depth env c o inside outside)
  turned_keeps (Faults r) inside outside = tt
  turned_keeps (Gives true) inside outside = refl
  turned_keeps (Gives false) inside outside = refl

  step_keeps : (s : Stepped) (fs : List Frame) → KeepsCount c.calls (after_step library k depth env c s fs)
  step_keeps (stops s outputs) fs = tt
  step_keeps (makes ctx outputs []) fs = refl
  step_keeps (makes ctx outputs (x ∷ xs)) fs = refl

  done_keeps : (bs : Blocks) (i : Instr-F Instr Arm Block) (f : Frame) (fs : List Frame) → KeepsCount c.calls (done library k depth env c bs i f fs)
  done_keeps bs (Instr-F.Step s) f fs =
      step_keeps (statements c.calls (nat_le 16 depth) (takes_of library) (kinds_of k.head.outputs) s.stmts
      (record { env = env; ctx = c.ctx; outputs = c.outputs; calls = [] })) (past f ∷ fs)
  done_keeps bs (Instr-F.If at arms other) f fs =
      chosen_keeps (picked (numbered_arms (first_block bs f) arms) (other_number (after_arms (first_block bs f) arms) other) env) (past f ∷ fs)
  done_keeps bs (Instr-F.While at e b) f fs = turned_keeps (holds e env) (at_head (first_block bs f) ∷ (f ∷ fs)) (past f ∷ fs)
  done_keeps bs (Instr-F.Return at n) f fs = tt

  does_keeps : (bs : Blocks) (o : Option Instr) (f : Frame) (fs : List Frame) → KeepsCount c.calls (does library k depth env c bs o f fs)
  does_keeps bs None f fs = tt
  does_keeps bs (Some i) f fs = done_keeps bs (out-Instr i) f fs

  innermost_keeps : (bs : Blocks) (fs : List Frame) → KeepsCount c.calls (at_innermost library k depth env c bs fs)
  innermost_keeps bs [] = tt
  innermost_keeps bs (f ∷ fs) = does_keeps bs (slice_get (block_of (slice_get bs f.block)) f.next) f fs

  pub advance_keeps : KeepsCount c.calls (advance library k depth env c)
  advance_keeps = innermost_keeps (blocks k.outline) (popped (blocks k.outline) (reverse c.frames))
