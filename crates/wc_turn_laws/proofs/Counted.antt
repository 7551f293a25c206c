-- The calls of a step are numbered from those that were made before.
use Rattle.std.proofs.Common.{◌≡◌, ℕ, zero, suc, ◌+◌, Bool, true, false, List, [], ◌∷◌, ◌++◌, Option, Some, None, length, refl, ap, subst, ◌∙◌, arith}
use Rattle.std.specs.Prelude.{if◌then◌else◌, nat_le, reverse, slice_get}
use Rattle.wc_value.specs.declared.process.Reason.TheVariants.{BadInput, Depth}
use Rattle.wc_value.specs.declared.value.Kind.{Kind}
use Rattle.wc_syntax.specs.declared.definition.Chain.{Chain}
use Rattle.wc_syntax.specs.declared.definition.Definition.{Definition}
use Rattle.wc_syntax.specs.declared.outline.Arm.{Arm}
use Rattle.wc_syntax.specs.declared.outline.Block.{Block}
use Rattle.wc_syntax.specs.declared.outline.CallStmt.{CallStmt}
use Rattle.wc_syntax.specs.declared.outline.Instr.{Instr, out-Instr}
use Rattle.wc_syntax.specs.declared.outline.Instr.TheOpen.{Instr-F}
use Rattle.wc_syntax.specs.declared.outline.Stmt.{Stmt}
use Rattle.wc_syntax.specs.declared.outline.Stmt.TheVariants as stmt
use Rattle.wc_state.specs.declared.environment.Env.{Env}
use Rattle.wc_state.specs.declared.record.Checkpoint.{Checkpoint}
use Rattle.wc_state.specs.declared.record.Frame.{Frame}
use Rattle.wc_expression.specs.declared.outcome.Outcome.{Outcome}
use Rattle.wc_expression.specs.declared.outcome.Outcome.TheVariants.{Gives, Faults}
use Rattle.wc_expression.specs.Outcomes.{◌>>=◌}
use Rattle.wc_expression.specs.Val.{val, holds}
use Rattle.wc_semantics.specs.Rules.{Values, is_taken, status_of}
use Rattle.wc_semantics.specs.Meaning.{takes_of, kinds_of}
use Rattle.wc_semantics.specs.Run.{label, picked}
use Rattle.wc_machine.specs.Advances.{popped, past, at_head, first_block, numbered_arms, after_arms, other_number, chosen, turned, after_step, done, does, at_innermost, advance}
use Rattle.wc_machine.specs.Outlines.{Blocks, blocks, block_of}
use Rattle.wc_machine.specs.Steps.{Argument, arguments, values_in, Noted, Stepped, stops, makes, or_stops, exits, with_plain, with_output, with_call, output, planned, collected, statements, Call}
use Rattle.wc_turn_laws.specs.OutlineLaws.{AreNumbered, IsNumbered, AdvancesNumberCalls}
use Rattle.wc_turn_laws.specs.View.{env_in}

numbered_last : (n : ℕ) (xs : List Call) (x : Call) → AreNumbered n xs → x.label ≡ label x.key (n + length xs) → AreNumbered n (xs ++ x ∷ [])
numbered_last n [] x t h = let e : n + 0 ≡ n = omega arith in (h ∙ ap (label x.key) e, tt)
numbered_last n (y ∷ ys) x t h = let e : n + suc (length ys) ≡ suc n + length ys = omega arith in (t.0, numbered_last (suc n) ys x t.1 (h ∙ ap (label x.key) e))

-- a call with the label of this number, if there is one
abbrev HasNumber : ℕ → Outcome Call → Type 0
HasNumber n (Gives p) = p.label ≡ label p.key n
HasNumber n (Faults r) = Unit {0}

its_number : (n : ℕ) (o : Outcome Call) (p : Call) → o ≡ Gives p → HasNumber n o → p.label ≡ label p.key n
its_number n o p e h = subst (HasNumber n) e h

module _ (before : ℕ) (deep : Bool) (takes : List ℕ → Values → Bool) (kinds : List ℕ → Option Kind) where
  abbrev Numbered : Stepped → Type 0
  Numbered (stops s outputs) = Unit {0}
  Numbered (makes ctx outputs calls) = AreNumbered (before + 1) calls

  numbered_or : {A : Type 0} (o : Outcome A) (s : Noted) (f : A → Stepped) → ((x : A) → o ≡ Gives x → Numbered (f x)) → Numbered (or_stops o s f)
  numbered_or (Gives x) s f h = h x refl
  numbered_or (Faults r) s f h = tt

  numbered_if : (b : Bool) (x y : Stepped) → Numbered x → Numbered y → Numbered (if b then x else y)
  numbered_if true x y p q = p
  numbered_if false x y p q = q

  numbered_exits : (n : ℕ) (s : Noted) → AreNumbered (before + 1) s.calls → Numbered (exits n s)
  numbered_exits zero s h = h
  numbered_exits (suc n) s h = tt

  collected_number : (c : CallStmt) (s : Noted) → HasNumber (before + length s.calls + 1) (collected before deep takes kinds c s)
  collected_number c s = if_deep deep _ (with_arguments (arguments c.args s.env []))
    where
      if_takes : (b : Bool) (args : List (List ℕ × Argument))
          → HasNumber (before + length s.calls + 1) (if b then Gives (planned before deep takes kinds c (before + length s.calls + 1) args) else Faults BadInput)
      if_takes true args = refl
      if_takes false args = tt

      with_arguments : (o : Outcome (List (List ℕ × Argument))) → HasNumber (before + length s.calls + 1)
          (o >>= (λ args. if takes c.callee.text (values_in args) then Gives (planned before deep takes kinds c (before + length s.calls + 1) args) else Faults BadInput))
      with_arguments (Gives args) = if_takes (takes c.callee.text (values_in args)) args
      with_arguments (Faults r) = tt

      if_deep : (b : Bool) (o : Outcome Call) → HasNumber (before + length s.calls + 1) o → HasNumber (before + length s.calls + 1) (if b then Faults Depth else o)
      if_deep true o h = tt
      if_deep false o h = h

  pub numbered_statements : (ss : List Stmt) (s : Noted) → AreNumbered (before + 1) s.calls → Numbered (statements before deep takes kinds ss s)
  numbered_statements [] s h = h
  numbered_statements (stmt.Ctx at key x ∷ ss) s h = numbered_or (val x s.env) s _ (λ v e. numbered_statements ss (with_plain key.text v s) h)
  numbered_statements (stmt.Out at name x ∷ ss) s h = numbered_or (output (kinds name.text) x s.env) s _ (λ n e. numbered_statements ss (with_output name.text n.node s) h)
  numbered_statements (stmt.Exit x ∷ ss) s h =
      numbered_or (is_taken x.condition s.env) s _ (λ b e. numbered_if b _ _ (numbered_exits (status_of x) s h) (numbered_statements ss s h))
  numbered_statements (stmt.Call c ∷ ss) s h =
      numbered_or (collected before deep takes kinds c s) s _ (λ p e. numbered_statements ss (with_call p s)
      (numbered_last (before + 1) s.calls p h
      (let same : before + length s.calls + 1 ≡ before + 1 + length s.calls = omega arith in
      its_number (before + length s.calls + 1) (collected before deep takes kinds c s) p e (collected_number c s) ∙ ap (label p.key) same)))

module _ (library : List Definition) (k : Chain) (depth : ℕ) (env : Env) (c : Checkpoint) where
  chosen_numbered : (o : Outcome (Option ℕ)) (fs : List Frame) → IsNumbered c (chosen library k depth env c o fs)
  chosen_numbered (Gives b) fs = (refl, refl)
  chosen_numbered (Faults r) fs = tt

  turned_numbered : (o : Outcome Bool) (inside outside : List Frame) → IsNumbered c (turned library k depth env c o inside outside)
  turned_numbered (Gives true) inside outside = (refl, refl)
  turned_numbered (Gives false) inside outside = (refl, refl)
  turned_numbered (Faults r) inside outside = tt

  step_numbered : (x : Stepped) (fs : List Frame) → Numbered c.calls (nat_le 16 depth) (takes_of library) (kinds_of k.head.outputs) x → IsNumbered c (after_step library k depth env c x fs)
  step_numbered (stops s outputs) fs h = tt
  step_numbered (makes ctx outputs []) fs h = (refl, refl)
  step_numbered (makes ctx outputs (x ∷ xs)) fs h = ((refl, refl), h)

  done_numbered : (bs : Blocks) (y : Instr-F Instr Arm Block) (f : Frame) (fs : List Frame) → IsNumbered c (done library k depth env c bs y f fs)
  done_numbered bs (Instr-F.Step s) f fs = step_numbered _ (past f ∷ fs)
      (numbered_statements c.calls (nat_le 16 depth) (takes_of library) (kinds_of k.head.outputs) s.stmts (record { env = env; ctx = c.ctx; outputs = c.outputs; calls = [] }) tt)
  done_numbered bs (Instr-F.If at arms other) f fs =
      chosen_numbered (picked (numbered_arms (first_block bs f) arms) (other_number (after_arms (first_block bs f) arms) other) env) (past f ∷ fs)
  done_numbered bs (Instr-F.While at x b) f fs = turned_numbered (holds x env) (at_head (first_block bs f) ∷ (f ∷ fs)) (past f ∷ fs)
  done_numbered bs (Instr-F.Return at n) f fs = tt

  does_numbered : (bs : Blocks) (x : Option Instr) (f : Frame) (fs : List Frame) → IsNumbered c (does library k depth env c bs x f fs)
  does_numbered bs None f fs = tt
  does_numbered bs (Some i) f fs = done_numbered bs (out-Instr i) f fs

  innermost_numbered : (bs : Blocks) (fs : List Frame) → IsNumbered c (at_innermost library k depth env c bs fs)
  innermost_numbered bs [] = tt
  innermost_numbered bs (f ∷ fs) = does_numbered bs (slice_get (block_of (slice_get bs f.block)) f.next) f fs

  pub advance_numbered : IsNumbered c (advance library k depth env c)
  advance_numbered = innermost_numbered (blocks k.outline) (popped (blocks k.outline) (reverse c.frames))

pub advances_number_calls : AdvancesNumberCalls
advances_number_calls library k depth v inputs c = advance_numbered library k depth (env_in v inputs c.ctx) c
