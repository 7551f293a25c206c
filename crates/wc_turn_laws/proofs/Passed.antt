-- What an advance keeps and passes on is what its environment and its checkpoint name.
use Rattle.std.proofs.Common.{ℕ, zero, suc, ◌+◌, Bool, true, false, List, [], ◌∷◌, Option, Some, None, length}
use Rattle.std.specs.Prelude.{if◌then◌else◌, nat_le, reverse, slice_get, All}
use Rattle.std.specs.Str.{bytes_eq}
use Rattle.std.proofs.lemmas.List.Elements.{All-head, All-tail, All-nil, All-cons, All-push}
use Rattle.wc_value.specs.Ascending.{put, before}
use Rattle.wc_value.specs.declared.process.Reason.TheVariants.{BadInput, Depth}
use Rattle.wc_value.specs.declared.value.Kind.{Kind}
use Rattle.wc_value.specs.declared.value.Value.{Value}
use Rattle.wc_syntax.specs.declared.definition.Chain.{Chain}
use Rattle.wc_syntax.specs.declared.definition.Definition.{Definition}
use Rattle.wc_syntax.specs.declared.outline.Arm.{Arm}
use Rattle.wc_syntax.specs.declared.outline.Block.{Block}
use Rattle.wc_syntax.specs.declared.outline.CallArg.{CallArg}
use Rattle.wc_syntax.specs.declared.outline.CallStmt.{CallStmt}
use Rattle.wc_syntax.specs.declared.outline.Instr.{Instr, out-Instr}
use Rattle.wc_syntax.specs.declared.outline.Instr.TheOpen.{Instr-F}
use Rattle.wc_syntax.specs.declared.outline.Stmt.{Stmt}
use Rattle.wc_syntax.specs.declared.outline.Stmt.TheVariants as stmt
use Rattle.wc_state.specs.Context.{Pairs, with_set}
use Rattle.wc_state.specs.declared.context.CtxRef.{CtxRef}
use Rattle.wc_state.specs.declared.context.CtxRef.TheVariants as held
use Rattle.wc_state.specs.declared.environment.Env.{Env}
use Rattle.wc_state.specs.declared.environment.Item.{Item}
use Rattle.wc_state.specs.declared.environment.Item.TheVariants as item
use Rattle.wc_state.specs.declared.environment.NodeValue.{NodeValue}
use Rattle.wc_state.specs.declared.record.Checkpoint.{Checkpoint}
use Rattle.wc_state.specs.declared.record.Frame.{Frame}
use Rattle.wc_expression.specs.declared.outcome.Outcome.{Outcome}
use Rattle.wc_expression.specs.declared.outcome.Outcome.TheVariants.{Gives, Faults}
use Rattle.wc_expression.specs.Val.{val, holds}
use Rattle.wc_semantics.specs.Rules.{Values, is_taken, status_of}
use Rattle.wc_semantics.specs.Meaning.{takes_of, kinds_of}
use Rattle.wc_semantics.specs.Run.{picked}
use Rattle.wc_semantics.specs.Statements.{keyed}
use Rattle.wc_machine.specs.Advances.{popped, past, at_head, first_block, numbered_arms, after_arms, other_number, chosen, turned, after_step, done, does, at_innermost, advance}
use Rattle.wc_machine.specs.Outlines.{Blocks, blocks, block_of}
use Rattle.wc_machine.specs.Steps.{Argument, arguments, values_in, named_node, or_plain, Noted, Stepped, stops, makes, or_stops, exits, with_plain, with_output, with_call, output, planned, collected, statements, Call}
use Rattle.wc_turn_laws.specs.Nodes.{InItem, NodesAre, InArgument, InCall, Holds, HoldsAfter}
use Rattle.wc_turn_laws.proofs.Named.{HasNode, output_has, argument_has, then_has}

-- ---- entries that are set

pub put_keeps : {A : Type 0} (P : A → Type 0) (name : List ℕ) (x : A) (es : List (List ℕ × A)) → All (λ e. P e.1) es → P x → All (λ e. P e.1) (put name x es)
put_keeps P name x [] h p = All-cons (λ e. P e.1) (name, x) [] p (All-nil (λ e. P e.1))
put_keeps P name x (e ∷ es) h p = by (before e.0 name) (bytes_eq e.0 name) (put_keeps P name x es (All-tail (λ z. P z.1) e es h) p)
  where
    by : (b c : Bool) → All (λ z. P z.1) (put name x es) → All (λ z. P z.1) (if b then e ∷ put name x es else if c then (name, x) ∷ es else (name, x) ∷ e ∷ es)
    by true c t = All-cons (λ z. P z.1) e (put name x es) (All-head (λ z. P z.1) e es h) t
    by false true t = All-cons (λ z. P z.1) (name, x) es p (All-tail (λ z. P z.1) e es h)
    by false false t = All-cons (λ z. P z.1) (name, x) (e ∷ es) p h

set_keeps : (Q : CtxRef → Type 0) (key : List ℕ) (x : CtxRef) (ctx : Pairs) → All (λ e. Q e.1) ctx → Q x → All (λ e. Q e.1) (with_set ctx key x)
set_keeps Q key x [] h q = All-cons (λ e. Q e.1) (key, x) [] q (All-nil (λ e. Q e.1))
set_keeps Q key x (p ∷ ps) h q = by (bytes_eq key p.0) (set_keeps Q key x ps (All-tail (λ z. Q z.1) p ps h) q)
  where
    by : (b : Bool) → All (λ z. Q z.1) (with_set ps key x) → All (λ z. Q z.1) (if b then (p.0, x) ∷ ps else p ∷ with_set ps key x)
    by true t = All-cons (λ z. Q z.1) (p.0, x) ps q (All-tail (λ z. Q z.1) p ps h)
    by false t = All-cons (λ z. Q z.1) p (with_set ps key x) (All-head (λ z. Q z.1) p ps h) t

key_keeps : (Q : Item → Type 0) (key : List ℕ) (x : Item) (es : List (List ℕ × Item)) → All (λ e. Q e.1) es → Q x → All (λ e. Q e.1) (keyed key x es)
key_keeps Q key x [] h q = All-cons (λ e. Q e.1) (key, x) [] q (All-nil (λ e. Q e.1))
key_keeps Q key x (p ∷ ps) h q = by (bytes_eq p.0 key) (key_keeps Q key x ps (All-tail (λ z. Q z.1) p ps h) q)
  where
    by : (b : Bool) → All (λ z. Q z.1) (keyed key x ps) → All (λ z. Q z.1) (if b then (key, x) ∷ ps else p ∷ keyed key x ps)
    by true t = All-cons (λ z. Q z.1) (key, x) ps q (All-tail (λ z. Q z.1) p ps h)
    by false t = All-cons (λ z. Q z.1) p (keyed key x ps) (All-head (λ z. Q z.1) p ps h) t

module _ (P : NodeValue → Type 0) (Q : CtxRef → Type 0) (R : ℕ → Type 0) (values : (x : Value) → Q (held.Plain x)) (nodes : (n : NodeValue) → P n → R n.node) where
  -- ---- arguments

  arguments_keep : (as' : List CallArg) (env : Env) (args : List (List ℕ × Argument)) → NodesAre P env → All (λ e. InArgument P e.1) args
      → HasNode (λ xs. All (λ e. InArgument P e.1) xs) (arguments as' env args)
  arguments_keep [] env args h t = t
  arguments_keep (a ∷ rest) env args h t =
      then_has (InArgument P) (λ xs. All (λ e. InArgument P e.1) xs) (or_plain (named_node a.value env) (val a.value env)) (λ x. arguments rest env (put a.port.text x args))
      (argument_has P a.value env h) (λ x q. arguments_keep rest env (put a.port.text x args) h (put_keeps (InArgument P) a.port.text x args t q))

  -- ---- statements

  pub record Notes (s : Noted) : Type 0 where
    pub seen : NodesAre P s.env
    pub keys : All (λ e. Q e.1) s.ctx
    pub set : All (λ o. R o.1) s.outputs
    pub called : All (InCall P) s.calls

  abbrev Leaves : Stepped → Type 0
  Leaves (stops s outputs) = All (λ o. R o.1) outputs
  Leaves (makes ctx outputs calls) = All (λ e. Q e.1) ctx × All (λ o. R o.1) outputs × All (InCall P) calls

  leaves_or : {A : Type 0} (T : A → Type 0) (o : Outcome A) (s : Noted) (f : A → Stepped) → Notes s → HasNode T o → ((x : A) → T x → Leaves (f x)) → Leaves (or_stops o s f)
  leaves_or T (Gives x) s f h t q = q x t
  leaves_or T (Faults r) s f h t q = h.set

  leaves_if : (b : Bool) (x y : Stepped) → Leaves x → Leaves y → Leaves (if b then x else y)
  leaves_if true x y p q = p
  leaves_if false x y p q = q

  leaves_exits : (n : ℕ) (s : Noted) → Notes s → Leaves (exits n s)
  leaves_exits zero s h = (h.keys, h.set, h.called)
  leaves_exits (suc n) s h = h.set

  any : {A : Type 0} (o : Outcome A) → HasNode (λ x. Unit {0}) o
  any (Gives x) = tt
  any (Faults r) = tt

  module _ (before : ℕ) (deep : Bool) (takes : List ℕ → Values → Bool) (kinds : List ℕ → Option Kind) where
    collected_keeps : (c : CallStmt) (s : Noted) → Notes s → HasNode (InCall P) (collected before deep takes kinds c s)
    collected_keeps c s h = if_deep deep _ (then_has (λ xs. All (λ e. InArgument P e.1) xs) (InCall P) (arguments c.args s.env []) _
        (arguments_keep c.args s.env [] h.seen (All-nil (λ e. InArgument P e.1))) (λ args t. if_takes (takes c.callee.text (values_in args)) args t))
      where
        if_takes : (b : Bool) (args : List (List ℕ × Argument)) → All (λ e. InArgument P e.1) args
            → HasNode (InCall P) (if b then Gives (planned before deep takes kinds c (before + length s.calls + 1) args) else Faults BadInput)
        if_takes true args t = t
        if_takes false args t = tt

        if_deep : (b : Bool) (o : Outcome Call) → HasNode (InCall P) o → HasNode (InCall P) (if b then Faults Depth else o)
        if_deep true o t = tt
        if_deep false o t = t

    statements_leave : (ss : List Stmt) (s : Noted) → Notes s → Leaves (statements before deep takes kinds ss s)
    statements_leave [] s h = (h.keys, h.set, h.called)
    statements_leave (stmt.Ctx at key x ∷ ss) s h = leaves_or (λ v. Unit {0}) (val x s.env) s _ h (any (val x s.env)) (λ v t.
        statements_leave ss (with_plain key.text v s) (record {
          seen = record { given = h.seen.given; items = key_keeps (InItem P) key.text (item.Plain v) s.env.ctx h.seen.items tt };
          keys = set_keeps Q key.text (held.Plain v) s.ctx h.keys (values v);
          set = h.set;
          called = h.called;
        }))
    statements_leave (stmt.Out at name x ∷ ss) s h = leaves_or P (output (kinds name.text) x s.env) s _ h (output_has P (kinds name.text) x s.env h.seen) (λ n t.
        statements_leave ss (with_output name.text n.node s) (record { seen = h.seen; keys = h.keys; set = put_keeps R name.text n.node s.outputs h.set (nodes n t); called = h.called }))
    statements_leave (stmt.Exit x ∷ ss) s h = leaves_or (λ b. Unit {0}) (is_taken x.condition s.env) s _ h (any (is_taken x.condition s.env))
        (λ b t. leaves_if b _ _ (leaves_exits (status_of x) s h) (statements_leave ss s h))
    statements_leave (stmt.Call c ∷ ss) s h = leaves_or (InCall P) (collected before deep takes kinds c s) s _ h (collected_keeps c s h) (λ p t.
        statements_leave ss (with_call p s) (record { seen = h.seen; keys = h.keys; set = h.set; called = All-push (InCall P) s.calls p h.called t }))

  -- ---- the next instruction

  module _ (library : List Definition) (k : Chain) (depth : ℕ) (env : Env) (c : Checkpoint) (known : NodesAre P env) (kept : Holds P Q R c) where
    chosen_holds : (o : Outcome (Option ℕ)) (fs : List Frame) → HoldsAfter P Q R (chosen library k depth env c o fs)
    chosen_holds (Gives b) fs = kept
    chosen_holds (Faults r) fs = kept.1

    turned_holds : (o : Outcome Bool) (inside outside : List Frame) → HoldsAfter P Q R (turned library k depth env c o inside outside)
    turned_holds (Gives true) inside outside = kept
    turned_holds (Gives false) inside outside = kept
    turned_holds (Faults r) inside outside = kept.1

    step_holds : (x : Stepped) (fs : List Frame) → Leaves x → HoldsAfter P Q R (after_step library k depth env c x fs)
    step_holds (stops s outputs) fs h = h
    step_holds (makes ctx outputs []) fs h = (h.0, h.1)
    step_holds (makes ctx outputs (x ∷ xs)) fs h = ((h.0, h.1), h.2)

    done_holds : (bs : Blocks) (y : Instr-F Instr Arm Block) (f : Frame) (fs : List Frame) → HoldsAfter P Q R (done library k depth env c bs y f fs)
    done_holds bs (Instr-F.Step s) f fs = step_holds _ (past f ∷ fs)
        (statements_leave c.calls (nat_le 16 depth) (takes_of library) (kinds_of k.head.outputs) s.stmts (record { env = env; ctx = c.ctx; outputs = c.outputs; calls = [] })
        (record { seen = known; keys = kept.0; set = kept.1; called = All-nil (InCall P) }))
    done_holds bs (Instr-F.If at arms other) f fs =
        chosen_holds (picked (numbered_arms (first_block bs f) arms) (other_number (after_arms (first_block bs f) arms) other) env) (past f ∷ fs)
    done_holds bs (Instr-F.While at x b) f fs = turned_holds (holds x env) (at_head (first_block bs f) ∷ (f ∷ fs)) (past f ∷ fs)
    done_holds bs (Instr-F.Return at n) f fs = kept.1

    does_holds : (bs : Blocks) (x : Option Instr) (f : Frame) (fs : List Frame) → HoldsAfter P Q R (does library k depth env c bs x f fs)
    does_holds bs None f fs = kept.1
    does_holds bs (Some i) f fs = done_holds bs (out-Instr i) f fs

    innermost_holds : (bs : Blocks) (fs : List Frame) → HoldsAfter P Q R (at_innermost library k depth env c bs fs)
    innermost_holds bs [] = kept.1
    innermost_holds bs (f ∷ fs) = does_holds bs (slice_get (block_of (slice_get bs f.block)) f.next) f fs

    pub advance_holds : HoldsAfter P Q R (advance library k depth env c)
    advance_holds = innermost_holds (blocks k.outline) (popped (blocks k.outline) (reverse c.frames))
