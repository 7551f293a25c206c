-- The labels of outputs, and the ports of arguments, ascend.
use Rattle.std.proofs.Common.{ℕ, zero, suc, ◌+◌, Bool, true, false, List, [], ◌∷◌, Option, Some, None, length}
use Rattle.std.specs.Prelude.{if◌then◌else◌, nat_le, reverse, slice_get, All}
use Rattle.std.specs.List.Sorted.{IsStrictlySortedBy}
use Rattle.std.proofs.lemmas.List.Elements.{All-nil, All-push}
use Rattle.wc_value.specs.Ascending.{Ascends, put}
use Rattle.wc_value.proofs.Puts.{ascends_put}
use Rattle.wc_value.specs.declared.process.Reason.TheVariants.{BadInput, Depth}
use Rattle.wc_value.specs.declared.value.Kind.{Kind}
use Rattle.wc_syntax.specs.declared.definition.Chain.{Chain}
use Rattle.wc_syntax.specs.declared.definition.Definition.{Definition}
use Rattle.wc_syntax.specs.declared.outline.Arm.{Arm}
use Rattle.wc_syntax.specs.declared.outline.Block.{Block}
use Rattle.wc_syntax.specs.declared.outline.CallStmt.{CallStmt}
use Rattle.wc_syntax.specs.declared.outline.Instr.{Instr, out-Instr}
use Rattle.wc_syntax.specs.declared.outline.Instr.TheOpen.{Instr-F}
use Rattle.wc_syntax.specs.declared.outline.Stmt.{Stmt}
use Rattle.wc_syntax.specs.declared.outline.Stmt.TheVariants as stmt
use Rattle.wc_state.specs.declared.environment.Env.{Env}
use Rattle.wc_state.specs.declared.record.Checkpoint.{Checkpoint}
use Rattle.wc_state.specs.declared.record.Frame.{Frame}
use Rattle.wc_expression.specs.declared.outcome.Outcome.{Outcome}
use Rattle.wc_expression.specs.declared.outcome.Outcome.TheVariants.{Gives, Faults}
use Rattle.wc_expression.specs.Val.{val, holds}
use Rattle.wc_semantics.specs.Rules.{Values, is_taken, status_of}
use Rattle.wc_semantics.specs.Meaning.{takes_of, kinds_of}
use Rattle.wc_semantics.specs.Run.{picked}
use Rattle.wc_machine.specs.Advances.{popped, past, at_head, first_block, numbered_arms, after_arms, other_number, chosen, turned, after_step, done, does, at_innermost}
use Rattle.wc_machine.specs.Outlines.{Blocks, blocks, block_of}
use Rattle.wc_machine.specs.Steps.{Argument, arguments, named_node, or_plain, values_in, Noted, Stepped, stops, makes, or_stops, exits, with_plain, with_output, with_call, output, planned, collected, statements, Call}
use Rattle.wc_syntax.specs.declared.outline.CallArg.{CallArg}
use Rattle.wc_turn_laws.proofs.Named.{HasNode, then_has}
use Rattle.wc_turn_laws.specs.OutlineLaws.{AreOrdered, AdvancesKeepOrder}

-- ---- arguments

any : {A : Type 0} (o : Outcome A) → HasNode (λ x. Unit {0}) o
any (Gives x) = tt
any (Faults r) = tt

arguments_ascend : (as' : List CallArg) (env : Env) (args : List (List ℕ × Argument)) → Ascends args → HasNode (λ xs. Ascends xs) (arguments as' env args)
arguments_ascend [] env args h = h
arguments_ascend (a ∷ rest) env args h =
    then_has (λ x. Unit {0}) (λ xs. Ascends xs) (or_plain (named_node a.value env) (val a.value env)) (λ x. arguments rest env (put a.port.text x args))
    (any (or_plain (named_node a.value env) (val a.value env))) (λ x t. arguments_ascend rest env (put a.port.text x args) (ascends_put a.port.text x args h))

pub none_ascends : (T : Type 0) → Ascends {T = T} []
unfolding IsStrictlySortedBy
none_ascends T = tt

-- ---- statements

abbrev Ordered : Call → Type 0
Ordered x = Ascends x.args

pub record Notes (s : Noted) : Type 0 where
  pub set : Ascends s.outputs
  pub called : All Ordered s.calls

abbrev Leaves : Stepped → Type 0
Leaves (stops s outputs) = Ascends outputs
Leaves (makes ctx outputs calls) = Ascends outputs × All Ordered calls

leaves_or : {A : Type 0} (T : A → Type 0) (o : Outcome A) (s : Noted) (f : A → Stepped) → Notes s → HasNode T o → ((x : A) → T x → Leaves (f x)) → Leaves (or_stops o s f)
leaves_or T (Gives x) s f h t q = q x t
leaves_or T (Faults r) s f h t q = h.set

leaves_if : (b : Bool) (x y : Stepped) → Leaves x → Leaves y → Leaves (if b then x else y)
leaves_if true x y p q = p
leaves_if false x y p q = q

leaves_exits : (n : ℕ) (s : Noted) → Notes s → Leaves (exits n s)
leaves_exits zero s h = (h.set, h.called)
leaves_exits (suc n) s h = h.set

module _ (before : ℕ) (deep : Bool) (takes : List ℕ → Values → Bool) (kinds : List ℕ → Option Kind) where
  collected_ordered : (c : CallStmt) (s : Noted) → HasNode Ordered (collected before deep takes kinds c s)
  collected_ordered c s = if_deep deep _ (then_has (λ xs. Ascends xs) Ordered (arguments c.args s.env []) _
      (arguments_ascend c.args s.env [] (none_ascends Argument)) (λ args t. if_takes (takes c.callee.text (values_in args)) args t))
    where
      if_takes : (b : Bool) (args : List (List ℕ × Argument)) → Ascends args
          → HasNode Ordered (if b then Gives (planned before deep takes kinds c (before + length s.calls + 1) args) else Faults BadInput)
      if_takes true args t = t
      if_takes false args t = tt

      if_deep : (b : Bool) (o : Outcome Call) → HasNode Ordered o → HasNode Ordered (if b then Faults Depth else o)
      if_deep true o t = tt
      if_deep false o t = t

  statements_leave : (ss : List Stmt) (s : Noted) → Notes s → Leaves (statements before deep takes kinds ss s)
  statements_leave [] s h = (h.set, h.called)
  statements_leave (stmt.Ctx at key x ∷ ss) s h = leaves_or (λ v. Unit {0}) (val x s.env) s _ h (any (val x s.env))
      (λ v t. statements_leave ss (with_plain key.text v s) (record { set = h.set; called = h.called }))
  statements_leave (stmt.Out at name x ∷ ss) s h = leaves_or (λ n. Unit {0}) (output (kinds name.text) x s.env) s _ h (any (output (kinds name.text) x s.env))
      (λ n t. statements_leave ss (with_output name.text n.node s) (record { set = ascends_put name.text n.node s.outputs h.set; called = h.called }))
  statements_leave (stmt.Exit x ∷ ss) s h = leaves_or (λ b. Unit {0}) (is_taken x.condition s.env) s _ h (any (is_taken x.condition s.env))
      (λ b t. leaves_if b _ _ (leaves_exits (status_of x) s h) (statements_leave ss s h))
  statements_leave (stmt.Call c ∷ ss) s h = leaves_or Ordered (collected before deep takes kinds c s) s _ h (collected_ordered c s)
      (λ p t. statements_leave ss (with_call p s) (record { set = h.set; called = All-push Ordered s.calls p h.called t }))

-- ---- the next instruction

module _ (library : List Definition) (k : Chain) (depth : ℕ) (env : Env) (c : Checkpoint) (kept : Ascends c.outputs) where
  chosen_ordered : (o : Outcome (Option ℕ)) (fs : List Frame) → AreOrdered (chosen library k depth env c o fs)
  chosen_ordered (Gives b) fs = kept
  chosen_ordered (Faults r) fs = kept

  turned_ordered : (o : Outcome Bool) (inside outside : List Frame) → AreOrdered (turned library k depth env c o inside outside)
  turned_ordered (Gives true) inside outside = kept
  turned_ordered (Gives false) inside outside = kept
  turned_ordered (Faults r) inside outside = kept

  step_ordered : (x : Stepped) (fs : List Frame) → Leaves x → AreOrdered (after_step library k depth env c x fs)
  step_ordered (stops s outputs) fs h = h
  step_ordered (makes ctx outputs []) fs h = h.0
  step_ordered (makes ctx outputs (x ∷ xs)) fs h = h

  done_ordered : (bs : Blocks) (y : Instr-F Instr Arm Block) (f : Frame) (fs : List Frame) → AreOrdered (done library k depth env c bs y f fs)
  done_ordered bs (Instr-F.Step s) f fs = step_ordered _ (past f ∷ fs)
      (statements_leave c.calls (nat_le 16 depth) (takes_of library) (kinds_of k.head.outputs) s.stmts (record { env = env; ctx = c.ctx; outputs = c.outputs; calls = [] })
      (record { set = kept; called = All-nil Ordered }))
  done_ordered bs (Instr-F.If at arms other) f fs =
      chosen_ordered (picked (numbered_arms (first_block bs f) arms) (other_number (after_arms (first_block bs f) arms) other) env) (past f ∷ fs)
  done_ordered bs (Instr-F.While at x b) f fs = turned_ordered (holds x env) (at_head (first_block bs f) ∷ (f ∷ fs)) (past f ∷ fs)
  done_ordered bs (Instr-F.Return at n) f fs = kept

  does_ordered : (bs : Blocks) (x : Option Instr) (f : Frame) (fs : List Frame) → AreOrdered (does library k depth env c bs x f fs)
  does_ordered bs None f fs = kept
  does_ordered bs (Some i) f fs = done_ordered bs (out-Instr i) f fs

  innermost_ordered : (bs : Blocks) (fs : List Frame) → AreOrdered (at_innermost library k depth env c bs fs)
  innermost_ordered bs [] = kept
  innermost_ordered bs (f ∷ fs) = does_ordered bs (slice_get (block_of (slice_get bs f.block)) f.next) f fs

pub advances_keep_order : AdvancesKeepOrder
advances_keep_order library k depth env c kept =
    innermost_ordered library k depth env c kept (blocks k.outline) (popped (blocks k.outline) (reverse c.frames))
