-- An advance that ends its chain finishes or excepts it.
use Rattle.std.proofs.Common.{◌≡◌, ◌≢◌, ℕ, zero, suc, Bool, true, false, List, [], ◌∷◌, Option, Some, None, refl}
use Rattle.std.specs.Prelude.{if◌then◌else◌, nat_le, reverse, slice_get}
use Rattle.wc_value.specs.declared.process.ProcessState.{ProcessState}
use Rattle.wc_value.specs.declared.process.ProcessState.TheVariants as state
use Rattle.wc_value.specs.declared.value.Kind.{Kind}
use Rattle.wc_syntax.specs.declared.definition.Chain.{Chain}
use Rattle.wc_syntax.specs.declared.definition.Definition.{Definition}
use Rattle.wc_syntax.specs.declared.outline.Arm.{Arm}
use Rattle.wc_syntax.specs.declared.outline.Block.{Block}
use Rattle.wc_syntax.specs.declared.outline.Instr.{Instr, out-Instr}
use Rattle.wc_syntax.specs.declared.outline.Instr.TheOpen.{Instr-F}
use Rattle.wc_syntax.specs.declared.outline.Stmt.{Stmt}
use Rattle.wc_syntax.specs.declared.outline.Stmt.TheVariants as stmt
use Rattle.wc_state.specs.declared.environment.Env.{Env}
use Rattle.wc_state.specs.declared.record.Checkpoint.{Checkpoint}
use Rattle.wc_state.specs.declared.record.Frame.{Frame}
use Rattle.wc_expression.specs.declared.outcome.Outcome.{Outcome}
use Rattle.wc_expression.specs.declared.outcome.Outcome.TheVariants.{Gives, Faults}
use Rattle.wc_expression.specs.Val.{val, holds}
use Rattle.wc_semantics.specs.Rules.{Values, is_taken, status_of}
use Rattle.wc_semantics.specs.Meaning.{takes_of, kinds_of}
use Rattle.wc_semantics.specs.Run.{picked}
use Rattle.wc_world.specs.Records.{has_ended}
use Rattle.wc_machine.specs.Advances.{popped, past, at_head, first_block, numbered_arms, after_arms, other_number, chosen, turned, after_step, done, does, at_innermost}
use Rattle.wc_machine.specs.Outlines.{Blocks, blocks, block_of}
use Rattle.wc_machine.specs.Steps.{Noted, Stepped, stops, makes, or_stops, exits, with_plain, with_output, with_call, output, collected, statements}
use Rattle.wc_soundness.specs.EndLaws.{EndsAlive, AdvancesEndAlive}

abbrev IsAlive : ProcessState → Type 0
IsAlive s = (has_ended s ≡ true) × (s ≢ state.Killed)

module _ (before : ℕ) (deep : Bool) (takes : List ℕ → Values → Bool) (kinds : List ℕ → Option Kind) where
  abbrev StopsAlive : Stepped → Type 0
  StopsAlive (stops s outputs) = IsAlive s
  StopsAlive (makes ctx outputs calls) = Unit {0}

  alive_or : {A : Type 0} (o : Outcome A) (s : Noted) (f : A → Stepped) → ((x : A) → StopsAlive (f x)) → StopsAlive (or_stops o s f)
  alive_or (Gives x) s f h = h x
  alive_or (Faults r) s f h = (refl, λ e. cc e)

  alive_if : (b : Bool) (x y : Stepped) → StopsAlive x → StopsAlive y → StopsAlive (if b then x else y)
  alive_if true x y p q = p
  alive_if false x y p q = q

  alive_exits : (n : ℕ) (s : Noted) → StopsAlive (exits n s)
  alive_exits zero s = tt
  alive_exits (suc n) s = (refl, λ e. cc e)

  alive_statements : (ss : List Stmt) (s : Noted) → StopsAlive (statements before deep takes kinds ss s)
  alive_statements [] s = tt
  alive_statements (stmt.Ctx at key x ∷ ss) s = alive_or (val x s.env) s _ (λ v. alive_statements ss (with_plain key.text v s))
  alive_statements (stmt.Out at name x ∷ ss) s = alive_or (output (kinds name.text) x s.env) s _ (λ n. alive_statements ss (with_output name.text n.node s))
  alive_statements (stmt.Exit x ∷ ss) s =
      alive_or (is_taken x.condition s.env) s _ (λ b. alive_if b _ _ (alive_exits (status_of x) s) (alive_statements ss s))
  alive_statements (stmt.Call c ∷ ss) s = alive_or (collected before deep takes kinds c s) s _ (λ p. alive_statements ss (with_call p s))

module _ (library : List Definition) (k : Chain) (depth : ℕ) (env : Env) (c : Checkpoint) where
  chosen_alive : (o : Outcome (Option ℕ)) (fs : List Frame) → EndsAlive (chosen library k depth env c o fs)
  chosen_alive (Gives b) fs = tt
  chosen_alive (Faults r) fs = (refl, λ e. cc e)

  turned_alive : (o : Outcome Bool) (inside outside : List Frame) → EndsAlive (turned library k depth env c o inside outside)
  turned_alive (Gives true) inside outside = tt
  turned_alive (Gives false) inside outside = tt
  turned_alive (Faults r) inside outside = (refl, λ e. cc e)

  step_alive : (x : Stepped) (fs : List Frame) → StopsAlive c.calls (nat_le 16 depth) (takes_of library) (kinds_of k.head.outputs) x → EndsAlive (after_step library k depth env c x fs)
  step_alive (stops s outputs) fs h = h
  step_alive (makes ctx outputs []) fs h = tt
  step_alive (makes ctx outputs (x ∷ xs)) fs h = tt

  done_alive : (bs : Blocks) (y : Instr-F Instr Arm Block) (f : Frame) (fs : List Frame) → EndsAlive (done library k depth env c bs y f fs)
  done_alive bs (Instr-F.Step s) f fs = step_alive _ (past f ∷ fs)
      (alive_statements c.calls (nat_le 16 depth) (takes_of library) (kinds_of k.head.outputs) s.stmts (record { env = env; ctx = c.ctx; outputs = c.outputs; calls = [] }))
  done_alive bs (Instr-F.If at arms other) f fs =
      chosen_alive (picked (numbered_arms (first_block bs f) arms) (other_number (after_arms (first_block bs f) arms) other) env) (past f ∷ fs)
  done_alive bs (Instr-F.While at x b) f fs = turned_alive (holds x env) (at_head (first_block bs f) ∷ (f ∷ fs)) (past f ∷ fs)
  done_alive bs (Instr-F.Return at n) f fs = (refl, λ e. cc e)

  does_alive : (bs : Blocks) (x : Option Instr) (f : Frame) (fs : List Frame) → EndsAlive (does library k depth env c bs x f fs)
  does_alive bs None f fs = (refl, λ e. cc e)
  does_alive bs (Some i) f fs = done_alive bs (out-Instr i) f fs

  innermost_alive : (bs : Blocks) (fs : List Frame) → EndsAlive (at_innermost library k depth env c bs fs)
  innermost_alive bs [] = (refl, λ e. cc e)
  innermost_alive bs (f ∷ fs) = does_alive bs (slice_get (block_of (slice_get bs f.block)) f.next) f fs

pub advances_end_alive : AdvancesEndAlive
advances_end_alive library k depth env c = innermost_alive library k depth env c (blocks k.outline) (popped (blocks k.outline) (reverse c.frames))
