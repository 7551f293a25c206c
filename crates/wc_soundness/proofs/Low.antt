-- Values that an advance keeps, and those that it gives to calls, are at most 32 deep.
use Rattle.std.proofs.Common.{◌≡◌, ℕ, zero, suc, ◌+◌, ◌≤◌, Bool, true, false, List, [], ◌∷◌, Option, Some, None, length, refl}
use Rattle.std.specs.Prelude.{if◌then◌else◌, nat_le, reverse, slice_get, All}
use Rattle.std.specs.Str.{bytes_eq}
use Rattle.std.proofs.lemmas.List.Elements.{All-head, All-tail, All-nil, All-cons, All-push}
use Rattle.wc_value.specs.Ascending.{put}
use Rattle.wc_value.specs.Spelling.{depth}
use Rattle.wc_value.specs.declared.process.Reason.TheVariants.{BadInput, Depth}
use Rattle.wc_value.specs.declared.value.Kind.{Kind}
use Rattle.wc_value.specs.declared.value.Value.{Value}
use Rattle.wc_syntax.specs.declared.definition.Chain.{Chain}
use Rattle.wc_syntax.specs.declared.definition.Definition.{Definition}
use Rattle.wc_syntax.specs.declared.expression.Expr.{Expr}
use Rattle.wc_syntax.specs.declared.outline.Arm.{Arm}
use Rattle.wc_syntax.specs.declared.outline.Block.{Block}
use Rattle.wc_syntax.specs.declared.outline.CallArg.{CallArg}
use Rattle.wc_syntax.specs.declared.outline.CallStmt.{CallStmt}
use Rattle.wc_syntax.specs.declared.outline.Instr.{Instr, out-Instr}
use Rattle.wc_syntax.specs.declared.outline.Instr.TheOpen.{Instr-F}
use Rattle.wc_syntax.specs.declared.outline.Stmt.{Stmt}
use Rattle.wc_syntax.specs.declared.outline.Stmt.TheVariants as stmt
use Rattle.wc_state.specs.Context.{Pairs, with_set}
use Rattle.wc_state.specs.declared.context.CtxRef.{CtxRef}
use Rattle.wc_state.specs.declared.context.CtxRef.TheVariants as held
use Rattle.wc_state.specs.declared.environment.Env.{Env}
use Rattle.wc_state.specs.declared.environment.NodeValue.{NodeValue}
use Rattle.wc_state.specs.declared.record.Checkpoint.{Checkpoint}
use Rattle.wc_state.specs.declared.record.Frame.{Frame}
use Rattle.wc_expression.specs.declared.outcome.Outcome.{Outcome}
use Rattle.wc_expression.specs.declared.outcome.Outcome.TheVariants.{Gives, Faults}
use Rattle.wc_expression.specs.Val.{val, holds}
use Rattle.wc_expression.proofs.Within.{val_levels}
use Rattle.wc_semantics.specs.Rules.{Values, is_taken, status_of}
use Rattle.wc_semantics.specs.Meaning.{takes_of, kinds_of}
use Rattle.wc_semantics.specs.Run.{picked}
use Rattle.wc_machine.specs.Advances.{popped, past, at_head, first_block, numbered_arms, after_arms, other_number, chosen, turned, after_step, done, does, at_innermost}
use Rattle.wc_machine.specs.Outlines.{Blocks, blocks, block_of}
use Rattle.wc_machine.specs.Steps.{Argument, arguments, named_node, or_plain, values_in, Noted, Stepped, stops, makes, or_stops, exits, with_plain, with_output, with_call, output, planned, collected, statements, Call}
use Rattle.wc_turn_laws.proofs.Named.{HasNode, then_has}
use Rattle.wc_turn_laws.proofs.Passed.{put_keeps}
use Rattle.wc_soundness.specs.ChainTurnLaws.{AdvancesStayLow}
use Rattle.wc_soundness.specs.Standing.{IsLow, AreLow, IsLowArgument, AreLowIn, AreLowAfter}

-- ---- entries that are set

set_keeps : (key : List ℕ) (x : CtxRef) (ctx : Pairs) → All (λ e. IsLow e.1) ctx → IsLow x → All (λ e. IsLow e.1) (with_set ctx key x)
set_keeps key x [] h q = All-cons (λ (e : List ℕ × CtxRef). IsLow e.1) (key, x) [] q (All-nil (λ (e : List ℕ × CtxRef). IsLow e.1))
set_keeps key x (p ∷ ps) h q = by (bytes_eq key p.0) (set_keeps key x ps (All-tail (λ (z : List ℕ × CtxRef). IsLow z.1) p ps h) q)
  where
    by : (b : Bool) → All (λ z. IsLow z.1) (with_set ps key x) → All (λ z. IsLow z.1) (if b then (p.0, x) ∷ ps else p ∷ with_set ps key x)
    by true t = All-cons (λ (z : List ℕ × CtxRef). IsLow z.1) (p.0, x) ps q (All-tail (λ (z : List ℕ × CtxRef). IsLow z.1) p ps h)
    by false t = All-cons (λ (z : List ℕ × CtxRef). IsLow z.1) p (with_set ps key x) (All-head (λ (z : List ℕ × CtxRef). IsLow z.1) p ps h) t

-- ---- values

abbrev IsLowValue : Value → Type 0
IsLowValue v = depth v ≤ 32

low_by : (o : Outcome Value) → ((v : Value) → o ≡ Gives v → IsLowValue v) → HasNode IsLowValue o
low_by (Gives v) h = h v refl
low_by (Faults r) h = tt

val_low : (x : Expr) (env : Env) → HasNode IsLowValue (val x env)
val_low x env = low_by (val x env) (val_levels x env)

argument_by : (n : Option (Outcome NodeValue)) (v : Outcome Value) → HasNode IsLowValue v → HasNode IsLowArgument (or_plain n v)
argument_by None (Gives v) h = h
argument_by None (Faults r) h = tt
argument_by (Some (Gives n)) v h = tt
argument_by (Some (Faults r)) v h = tt

abbrev AreLowArguments : List (List ℕ × Argument) → Type 0
AreLowArguments xs = All (λ e. IsLowArgument e.1) xs

arguments_low : (as' : List CallArg) (env : Env) (args : List (List ℕ × Argument)) → AreLowArguments args → HasNode AreLowArguments (arguments as' env args)
arguments_low [] env args t = t
arguments_low (a ∷ rest) env args t =
    then_has IsLowArgument AreLowArguments (or_plain (named_node a.value env) (val a.value env)) (λ x. arguments rest env (put a.port.text x args))
    (argument_by (named_node a.value env) (val a.value env) (val_low a.value env))
    (λ x q. arguments_low rest env (put a.port.text x args) (put_keeps IsLowArgument a.port.text x args t q))

-- ---- statements

record Notes (s : Noted) : Type 0 where
  keys : All (λ e. IsLow e.1) s.ctx
  called : All AreLowIn s.calls

abbrev Leaves : Stepped → Type 0
Leaves (stops s outputs) = Unit {0}
Leaves (makes ctx outputs calls) = All (λ e. IsLow e.1) ctx × All AreLowIn calls

leaves_or : {A : Type 0} (T : A → Type 0) (o : Outcome A) (s : Noted) (f : A → Stepped) → HasNode T o → ((x : A) → T x → Leaves (f x)) → Leaves (or_stops o s f)
leaves_or T (Gives x) s f t q = q x t
leaves_or T (Faults r) s f t q = tt

leaves_if : (b : Bool) (x y : Stepped) → Leaves x → Leaves y → Leaves (if b then x else y)
leaves_if true x y p q = p
leaves_if false x y p q = q

leaves_exits : (n : ℕ) (s : Noted) → Notes s → Leaves (exits n s)
leaves_exits zero s h = (h.keys, h.called)
leaves_exits (suc n) s h = tt

any : {A : Type 0} (o : Outcome A) → HasNode (λ x. Unit {0}) o
any (Gives x) = tt
any (Faults r) = tt

module _ (before : ℕ) (deep : Bool) (takes : List ℕ → Values → Bool) (kinds : List ℕ → Option Kind) where
  collected_low : (c : CallStmt) (s : Noted) → HasNode AreLowIn (collected before deep takes kinds c s)
  collected_low c s = if_deep deep _ (then_has AreLowArguments AreLowIn (arguments c.args s.env []) _
      (arguments_low c.args s.env [] (All-nil (λ (e : List ℕ × Argument). IsLowArgument e.1))) (λ args t. if_takes (takes c.callee.text (values_in args)) args t))
    where
      if_takes : (b : Bool) (args : List (List ℕ × Argument)) → AreLowArguments args
          → HasNode AreLowIn (if b then Gives (planned before deep takes kinds c (before + length s.calls + 1) args) else Faults BadInput)
      if_takes true args t = t
      if_takes false args t = tt

      if_deep : (b : Bool) (o : Outcome Call) → HasNode AreLowIn o → HasNode AreLowIn (if b then Faults Depth else o)
      if_deep true o t = tt
      if_deep false o t = t

  statements_leave : (ss : List Stmt) (s : Noted) → Notes s → Leaves (statements before deep takes kinds ss s)
  statements_leave [] s h = (h.keys, h.called)
  statements_leave (stmt.Ctx at key x ∷ ss) s h = leaves_or IsLowValue (val x s.env) s _ (val_low x s.env)
      (λ v t. statements_leave ss (with_plain key.text v s) (record { keys = set_keeps key.text (held.Plain v) s.ctx h.keys t; called = h.called }))
  statements_leave (stmt.Out at name x ∷ ss) s h = leaves_or (λ n. Unit {0}) (output (kinds name.text) x s.env) s _ (any (output (kinds name.text) x s.env))
      (λ n t. statements_leave ss (with_output name.text n.node s) (record { keys = h.keys; called = h.called }))
  statements_leave (stmt.Exit x ∷ ss) s h = leaves_or (λ b. Unit {0}) (is_taken x.condition s.env) s _ (any (is_taken x.condition s.env))
      (λ b t. leaves_if b _ _ (leaves_exits (status_of x) s h) (statements_leave ss s h))
  statements_leave (stmt.Call c ∷ ss) s h = leaves_or AreLowIn (collected before deep takes kinds c s) s _ (collected_low c s)
      (λ p t. statements_leave ss (with_call p s) (record { keys = h.keys; called = All-push AreLowIn s.calls p h.called t }))

-- ---- the next instruction

module _ (library : List Definition) (k : Chain) (depth : ℕ) (env : Env) (c : Checkpoint) (kept : AreLow c) where
  chosen_low : (o : Outcome (Option ℕ)) (fs : List Frame) → AreLowAfter (chosen library k depth env c o fs)
  chosen_low (Gives b) fs = kept
  chosen_low (Faults r) fs = tt

  turned_low : (o : Outcome Bool) (inside outside : List Frame) → AreLowAfter (turned library k depth env c o inside outside)
  turned_low (Gives true) inside outside = kept
  turned_low (Gives false) inside outside = kept
  turned_low (Faults r) inside outside = tt

  step_low : (x : Stepped) (fs : List Frame) → Leaves x → AreLowAfter (after_step library k depth env c x fs)
  step_low (stops s outputs) fs h = tt
  step_low (makes ctx outputs []) fs h = h.0
  step_low (makes ctx outputs (x ∷ xs)) fs h = (h.0, h.1)

  done_low : (bs : Blocks) (y : Instr-F Instr Arm Block) (f : Frame) (fs : List Frame) → AreLowAfter (done library k depth env c bs y f fs)
  done_low bs (Instr-F.Step s) f fs = step_low _ (past f ∷ fs)
      (statements_leave c.calls (nat_le 16 depth) (takes_of library) (kinds_of k.head.outputs) s.stmts (record { env = env; ctx = c.ctx; outputs = c.outputs; calls = [] })
      (record { keys = kept; called = All-nil AreLowIn }))
  done_low bs (Instr-F.If at arms other) f fs =
      chosen_low (picked (numbered_arms (first_block bs f) arms) (other_number (after_arms (first_block bs f) arms) other) env) (past f ∷ fs)
  done_low bs (Instr-F.While at x b) f fs = turned_low (holds x env) (at_head (first_block bs f) ∷ (f ∷ fs)) (past f ∷ fs)
  done_low bs (Instr-F.Return at n) f fs = tt

  does_low : (bs : Blocks) (x : Option Instr) (f : Frame) (fs : List Frame) → AreLowAfter (does library k depth env c bs x f fs)
  does_low bs None f fs = tt
  does_low bs (Some i) f fs = done_low bs (out-Instr i) f fs

  innermost_low : (bs : Blocks) (fs : List Frame) → AreLowAfter (at_innermost library k depth env c bs fs)
  innermost_low bs [] = tt
  innermost_low bs (f ∷ fs) = does_low bs (slice_get (block_of (slice_get bs f.block)) f.next) f fs

pub advances_stay_low : AdvancesStayLow
advances_stay_low library k depth env c kept = innermost_low library k depth env c kept (blocks k.outline) (popped (blocks k.outline) (reverse c.frames))
