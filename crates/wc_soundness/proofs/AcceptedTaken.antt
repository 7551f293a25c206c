-- The calls that an advance submits: there are some, each is of a definition that is there, and another level may be called.
use Rattle.std.proofs.Common.{◌≡◌, ℕ, zero, suc, ◌+◌, Bool, true, false, List, [], ◌∷◌, Option, Some, None, length, refl}
use Rattle.std.specs.Prelude.{◌≢◌, if◌then◌else◌, nat_le, reverse, slice_get, All}
use Rattle.std.proofs.lemmas.List.Elements.{All-nil, All-push}
use Rattle.wc_value.specs.declared.process.Reason.TheVariants.{BadInput, Depth}
use Rattle.wc_value.specs.declared.value.Kind.{Kind}
use Rattle.wc_syntax.specs.Findings.{definition_named}
use Rattle.wc_syntax.specs.declared.definition.Chain.{Chain}
use Rattle.wc_syntax.specs.declared.definition.Definition.{Definition}
use Rattle.wc_syntax.specs.declared.outline.Arm.{Arm}
use Rattle.wc_syntax.specs.declared.outline.Block.{Block}
use Rattle.wc_syntax.specs.declared.outline.CallStmt.{CallStmt}
use Rattle.wc_syntax.specs.declared.outline.Instr.{Instr, out-Instr}
use Rattle.wc_syntax.specs.declared.outline.Instr.TheOpen.{Instr-F}
use Rattle.wc_syntax.specs.declared.outline.Stmt.{Stmt}
use Rattle.wc_syntax.specs.declared.outline.Stmt.TheVariants as stmt
use Rattle.wc_state.specs.declared.environment.Env.{Env}
use Rattle.wc_state.specs.declared.record.Checkpoint.{Checkpoint}
use Rattle.wc_state.specs.declared.record.Frame.{Frame}
use Rattle.wc_expression.specs.declared.outcome.Outcome.{Outcome}
use Rattle.wc_expression.specs.declared.outcome.Outcome.TheVariants.{Gives, Faults}
use Rattle.wc_expression.specs.Outcomes.{◌>>=◌}
use Rattle.wc_expression.specs.Val.{val, holds}
use Rattle.wc_semantics.specs.Rules.{is_taken, status_of}
use Rattle.wc_semantics.specs.Meaning.{kinds_of, takes_inputs, takes_of}
use Rattle.wc_semantics.specs.Run.{picked}
use Rattle.wc_machine.specs.Advances.{Advanced, goes, loops, submits, ends, popped, past, at_head, first_block, numbered_arms, after_arms, other_number, chosen, turned, after_step, done, does, at_innermost, advance}
use Rattle.wc_machine.specs.Outlines.{Blocks, blocks, block_of}
use Rattle.wc_machine.specs.Steps.{Argument, arguments, values_in, Noted, Stepped, stops, makes, or_stops, exits, with_plain, with_output, with_call, output, planned, collected, statements, Call}
use Rattle.wc_turn_laws.proofs.Named.{HasNode, then_has}

-- the callee is there, and another level may be called
pub record HasCallee (library : List Definition) (depth : ℕ) (x : Call) : Type 0 where
  pub level : nat_le 16 depth ≡ false
  pub definition : Definition
  pub is_there : definition_named x.definition library ≡ Some definition

any : {A : Type 0} (o : Outcome A) → HasNode (λ x. Unit {0}) o
any (Gives x) = tt
any (Faults r) = tt

module _ (library : List Definition) (depth before : ℕ) (kinds : List ℕ → Option Kind) where
  taken_by : (c : CallStmt) (number : ℕ) (args : List (List ℕ × Argument)) → nat_le 16 depth ≡ false → (o : Option Definition) → definition_named c.callee.text library ≡ o
      → takes_inputs o (values_in args) ≡ true → HasCallee library depth (planned before (nat_le 16 depth) (takes_of library) kinds c number args)
  taken_by c number args level None is takes = absurd (cc)
  taken_by c number args level (Some d) is takes = record { level = level; definition = d; is_there = is }

  collected_taken : (c : CallStmt) (s : Noted) → HasNode (HasCallee library depth) (collected before (nat_le 16 depth) (takes_of library) kinds c s)
  collected_taken c s = if_deep (nat_le 16 depth) refl
    where
      if_takes : nat_le 16 depth ≡ false → (args : List (List ℕ × Argument)) → (b : Bool) → takes_of library c.callee.text (values_in args) ≡ b
          → HasNode (HasCallee library depth) (if b then Gives (planned before (nat_le 16 depth) (takes_of library) kinds c (before + length s.calls + 1) args) else Faults BadInput)
      if_takes level args true e = taken_by c (before + length s.calls + 1) args level (definition_named c.callee.text library) refl e
      if_takes level args false e = tt

      if_deep : (b : Bool) → nat_le 16 depth ≡ b → HasNode (HasCallee library depth)
          (if b then Faults Depth
          else (arguments c.args s.env [] >>= (λ args.
          if takes_of library c.callee.text (values_in args) then Gives (planned before (nat_le 16 depth) (takes_of library) kinds c (before + length s.calls + 1) args) else Faults BadInput)))
      if_deep true level = tt
      if_deep false level =
          then_has (λ args. Unit {0}) (HasCallee library depth) (arguments c.args s.env []) _ (any (arguments c.args s.env []))
          (λ args t. if_takes level args (takes_of library c.callee.text (values_in args)) refl)

  -- ---- statements

  abbrev Leaves : Stepped → Type 0
  Leaves (stops s outputs) = Unit {0}
  Leaves (makes ctx outputs calls) = All (HasCallee library depth) calls

  leaves_or : {A : Type 0} (T : A → Type 0) (o : Outcome A) (s : Noted) (f : A → Stepped) → HasNode T o → ((x : A) → T x → Leaves (f x)) → Leaves (or_stops o s f)
  leaves_or T (Gives x) s f t q = q x t
  leaves_or T (Faults r) s f t q = tt

  leaves_if : (b : Bool) (x y : Stepped) → Leaves x → Leaves y → Leaves (if b then x else y)
  leaves_if true x y p q = p
  leaves_if false x y p q = q

  leaves_exits : (n : ℕ) (s : Noted) → All (HasCallee library depth) s.calls → Leaves (exits n s)
  leaves_exits zero s h = h
  leaves_exits (suc n) s h = tt

  statements_leave : (ss : List Stmt) (s : Noted) → All (HasCallee library depth) s.calls → Leaves (statements before (nat_le 16 depth) (takes_of library) kinds ss s)
  statements_leave [] s h = h
  statements_leave (stmt.Ctx at key x ∷ ss) s h =
      leaves_or (λ v. Unit {0}) (val x s.env) s _ (any (val x s.env)) (λ v t. statements_leave ss (with_plain key.text v s) h)
  statements_leave (stmt.Out at name x ∷ ss) s h =
      leaves_or (λ n. Unit {0}) (output (kinds name.text) x s.env) s _ (any (output (kinds name.text) x s.env)) (λ n t. statements_leave ss (with_output name.text n.node s) h)
  statements_leave (stmt.Exit x ∷ ss) s h =
      leaves_or (λ b. Unit {0}) (is_taken x.condition s.env) s _ (any (is_taken x.condition s.env)) (λ b t. leaves_if b _ _ (leaves_exits (status_of x) s h) (statements_leave ss s h))
  statements_leave (stmt.Call c ∷ ss) s h =
      leaves_or (HasCallee library depth) (collected before (nat_le 16 depth) (takes_of library) kinds c s) s _ (collected_taken c s)
      (λ p t. statements_leave ss (with_call p s) (All-push (HasCallee library depth) s.calls p h t))

-- ---- the next instruction

abbrev pub HaveCallees : List Definition → ℕ → Advanced → Type 0
HaveCallees library depth (goes d) = Unit {0}
HaveCallees library depth (loops d) = Unit {0}
HaveCallees library depth (submits d calls) = (length calls ≢ 0) × All (HasCallee library depth) calls
HaveCallees library depth (ends s outputs) = Unit {0}

module _ (library : List Definition) (k : Chain) (depth : ℕ) (env : Env) (c : Checkpoint) where
  chosen_taken : (o : Outcome (Option ℕ)) (fs : List Frame) → HaveCallees library depth (chosen library k depth env c o fs)
  chosen_taken (Gives b) fs = tt
  chosen_taken (Faults r) fs = tt

  turned_taken : (o : Outcome Bool) (inside outside : List Frame) → HaveCallees library depth (turned library k depth env c o inside outside)
  turned_taken (Gives true) inside outside = tt
  turned_taken (Gives false) inside outside = tt
  turned_taken (Faults r) inside outside = tt

  step_taken : (x : Stepped) (fs : List Frame) → Leaves library depth c.calls (kinds_of k.head.outputs) x → HaveCallees library depth (after_step library k depth env c x fs)
  step_taken (stops s outputs) fs h = tt
  step_taken (makes ctx outputs []) fs h = tt
  step_taken (makes ctx outputs (x ∷ xs)) fs h = ((λ e. absurd (cc)), h)

  done_taken : (bs : Blocks) (y : Instr-F Instr Arm Block) (f : Frame) (fs : List Frame) → HaveCallees library depth (done library k depth env c bs y f fs)
  done_taken bs (Instr-F.Step s) f fs = step_taken _ (past f ∷ fs)
      (statements_leave library depth c.calls (kinds_of k.head.outputs) s.stmts (record { env = env; ctx = c.ctx; outputs = c.outputs; calls = [] }) (All-nil (HasCallee library depth)))
  done_taken bs (Instr-F.If at arms other) f fs =
      chosen_taken (picked (numbered_arms (first_block bs f) arms) (other_number (after_arms (first_block bs f) arms) other) env) (past f ∷ fs)
  done_taken bs (Instr-F.While at x b) f fs = turned_taken (holds x env) (at_head (first_block bs f) ∷ (f ∷ fs)) (past f ∷ fs)
  done_taken bs (Instr-F.Return at n) f fs = tt

  does_taken : (x : Option Instr) (f : Frame) (fs : List Frame) → HaveCallees library depth (does library k depth env c (blocks k.outline) x f fs)
  does_taken None f fs = tt
  does_taken (Some i) f fs = done_taken (blocks k.outline) (out-Instr i) f fs

  innermost_taken : (fs : List Frame) → HaveCallees library depth (at_innermost library k depth env c (blocks k.outline) fs)
  innermost_taken [] = tt
  innermost_taken (f ∷ fs) = does_taken (slice_get (block_of (slice_get (blocks k.outline) f.block)) f.next) f fs

  -- Each call that an advance submits has a callee, whatever the library.
  pub have_callees : HaveCallees library depth (advance library k depth env c)
  have_callees = innermost_taken (popped (blocks k.outline) (reverse c.frames))
