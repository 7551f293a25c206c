-- An advance hangs on what the instruction mentions that comes next alone.
use Rattle.std.proofs.Common.{◌≡◌, ℕ, zero, suc, ◌+◌, Bool, true, false, List, [], ◌∷◌, ◌++◌, Option, Some, None, length, reverse, refl, sym, ap, subst, ◌∙◌}
use Rattle.std.specs.Prelude.{if◌then◌else◌, flat_map, nat_le, slice_get, option_map}
use Rattle.std.specs.Str.{bytes_eq}
use Rattle.std.specs.Cmp.Lexicographic.{bytes_decides}
use Rattle.wc_value.specs.Ascending.{lookup, put}
use Rattle.wc_value.specs.declared.process.Reason.TheVariants.{MissingKey, BadInput, Depth}
use Rattle.wc_value.specs.declared.process.ProcessState.TheVariants.{Excepted}
use Rattle.wc_value.specs.declared.value.Kind.{Kind}
use Rattle.wc_value.specs.declared.value.Value.{Value, out-Value}
use Rattle.wc_syntax.specs.Mentions.{Mention, Bare, Given, Input, Context, Label, part_mentions, form_mentions, its_mentions, mentions, condition_mentions, exit_mentions, stmt_mentions}
use Rattle.wc_syntax.specs.declared.definition.Chain.{Chain}
use Rattle.wc_syntax.specs.declared.definition.Definition.{Definition}
use Rattle.wc_syntax.specs.declared.expression.ChildPart.TheVariants as part
use Rattle.wc_syntax.specs.declared.expression.Expr.{Expr, fold_out-Expr}
use Rattle.wc_syntax.specs.declared.expression.Form.{Form, out-Form, map-Form, fold_out-Form}
use Rattle.wc_syntax.specs.declared.expression.Form.TheOpen.{Form-F}
use Rattle.wc_syntax.specs.declared.outline.Arm.{Arm, out-Arm}
use Rattle.wc_syntax.specs.declared.outline.Block.{Block}
use Rattle.wc_syntax.specs.declared.outline.CallArg.{CallArg}
use Rattle.wc_syntax.specs.declared.outline.CallStmt.{CallStmt}
use Rattle.wc_syntax.specs.declared.outline.Instr.{Instr, out-Instr}
use Rattle.wc_syntax.specs.declared.outline.Instr.TheOpen.{Instr-F}
use Rattle.wc_syntax.specs.declared.outline.Stmt.{Stmt}
use Rattle.wc_syntax.specs.declared.outline.Stmt.TheVariants as stmt
use Rattle.wc_state.specs.Context.{Pairs, with_set}
use Rattle.wc_state.specs.declared.context.CtxRef.TheVariants as held
use Rattle.wc_state.specs.declared.environment.Env.{Env}
use Rattle.wc_state.specs.declared.environment.Item.{Item}
use Rattle.wc_state.specs.declared.environment.Item.TheVariants.{Plain}
use Rattle.wc_state.specs.declared.environment.NodeValue.{NodeValue}
use Rattle.wc_state.specs.declared.record.Checkpoint.{Checkpoint}
use Rattle.wc_state.specs.declared.record.Frame.{Frame}
use Rattle.wc_expression.specs.declared.outcome.Outcome.{Outcome}
use Rattle.wc_expression.specs.declared.outcome.Outcome.TheVariants.{Gives, Faults}
use Rattle.wc_expression.specs.Contents.{bool_of, item}
use Rattle.wc_expression.specs.Environment.{child_of, children_of}
use Rattle.wc_expression.specs.Outcomes.{◌>>=◌, found}
use Rattle.wc_expression.specs.Val.{val, holds}
use Rattle.wc_semantics.specs.Meaning.{kinds_of, takes_of}
use Rattle.wc_semantics.specs.Rules.{Values, is_taken, status_of}
use Rattle.wc_semantics.specs.Run.{picked}
use Rattle.wc_semantics.specs.Statements.{keyed, with_key}
use Rattle.wc_semantics.specs.Tables.{Label as OutLabel}
use Rattle.wc_machine.specs.Advances.{past, at_head, first_block, numbered_arms, after_arms, other_number, chosen, turned, after_step, done, does, at_innermost, advance, popped}
use Rattle.wc_machine.specs.Outlines.{Blocks, blocks, block_of}
use Rattle.wc_machine.specs.Steps.{Argument, Call, Noted, Stepped, stops, makes, values_in, output_node, node_in, named_node, or_wrong, fitting_node, output, or_plain, arguments, or_stops, exits, with_plain, with_output, with_call, planned, collected, statements}
use Rattle.wc_outline.specs.Agreement.{AgreeOn, Agree}
use Rattle.wc_outline.specs.Keys.{mentions_of_form, arm_mentions, level_mentions}
use Rattle.wc_outline.specs.Places.{front_of, standing}
use Rattle.wc_outline.specs.Reads.{standing_mentions, next_mentions}
use Rattle.wc_outline.proofs.Agreement.{front, behind, hangs_on_mentions}

-- ---- a key that is set

module _ (key n : List ℕ) (it : Item) where
  place : (e : List ℕ × Item) (es : List (List ℕ × Item)) (a b c : Bool) → bytes_eq e.0 key ≡ a → bytes_eq e.0 n ≡ b → bytes_eq key n ≡ c
      → lookup n (keyed key it es) ≡ (if c then Some it else lookup n es)
      → lookup n (if a then (key, it) ∷ es else e ∷ keyed key it es) ≡ (if c then Some it else if b then Some e.1 else lookup n es)
  place e es true b true p q r h = ap (λ (x : Bool). if x then Some it else lookup n es) r
  place e es true true false p q r h =
      let same : e.0 ≡ key = (bytes_decides e.0 key).0 p in
      let other : bytes_eq key n ≡ true = ap (λ (x : List ℕ). bytes_eq x n) (sym same) ∙ q in
      absurd (cc)
  place e es true false false p q r h = ap (λ (x : Bool). if x then Some it else lookup n es) r
  place e es false true true p q r h =
      let same : e.0 ≡ n = (bytes_decides e.0 n).0 q in
      let other : key ≡ n = (bytes_decides key n).0 r in
      let both : bytes_eq e.0 key ≡ true = (bytes_decides e.0 key).1 (same ∙ sym other) in
      absurd (cc)
  place e es false true false p q r h = ap (λ (x : Bool). if x then Some e.1 else lookup n (keyed key it es)) q
  place e es false false c p q r h = ap (λ (x : Bool). if x then Some e.1 else lookup n (keyed key it es)) q ∙ h

  -- what a key holds once one is set
  found_keyed : (es : List (List ℕ × Item)) → lookup n (keyed key it es) ≡ (if bytes_eq key n then Some it else lookup n es)
  found_keyed [] = refl
  found_keyed (e ∷ es) = place e es (bytes_eq e.0 key) (bytes_eq e.0 n) (bytes_eq key n) refl refl refl (found_keyed es)

-- environments that agree do so with the same set in both
module _ (one two : Env) (key : List ℕ) (it : Item) where
  still_on : (m : Mention) → AgreeOn one two m → AgreeOn (with_key key it one) (with_key key it two) m
  still_on (Bare n) h = h
  still_on (Given n) h = h
  still_on (Input at n) h = h
  still_on (Context at n) h =
      found_keyed key n.text it one.ctx ∙ ap (λ (o : Option Item). if bytes_eq key n.text then Some it else o) h ∙ sym (found_keyed key n.text it two.ctx)
  still_on (Label n) h = tt

  still : (ms : List Mention) → Agree one two ms → Agree (with_key key it one) (with_key key it two) ms
  still [] h = tt
  still (m ∷ ms) h = (still_on m h.0, still ms h.1)

-- ---- nodes that are named

module _ (one two : Env) where
  node_level : (y : Form-F Form Expr) → Agree one two (form_mentions (map-Form Form Expr (List Mention) (List Mention) mentions_of_form mentions y)) → node_in y one ≡ node_in y two
  node_level (Form-F.Number n) h = refl
  node_level (Form-F.Quoted q) h = refl
  node_level (Form-F.Truth b) h = refl
  node_level (Form-F.Bare n) h = refl
  node_level (Form-F.Input at n) h = ap (λ (o : Option NodeValue). Some (found MissingKey o)) h.0
  node_level (Form-F.Plain at n) h = refl
  node_level (Form-F.Child at n None (part.Outputs o)) h = ap (λ (i : Option Item). Some ((found MissingKey i >>= child_of) >>= output_node (part.Outputs o))) h.0
  node_level (Form-F.Child at n None part.Status) h = refl
  node_level (Form-F.Child at n None part.Ok) h = refl
  node_level (Form-F.Child at n (Some e) (part.Outputs o)) h =
      let at_index : val e one ≡ val e two = hangs_on_mentions e one two (front (AgreeOn one two) (mentions e) (part_mentions (part.Outputs o)) h.1) in
      λ i. Some ((found MissingKey (h.0 i) >>= children_of) >>= (λ cs. at_index i >>= (λ x. item cs (out-Value x) >>= output_node (part.Outputs o))))
  node_level (Form-F.Child at n (Some e) part.Status) h = refl
  node_level (Form-F.Child at n (Some e) part.Ok) h = refl
  node_level (Form-F.Unary o a) h = refl
  node_level (Form-F.Binary o a b) h = refl
  node_level (Form-F.One o a) h = refl
  node_level (Form-F.Two o a b) h = refl
  node_level (Form-F.GivenBare n) h = refl
  node_level (Form-F.GivenInput at n) h = refl
  node_level (Form-F.Count at n) h = refl
  node_level (Form-F.List es) h = refl

  opened : (x : Expr) → mentions x ≡ form_mentions (map-Form Form Expr (List Mention) (List Mention) mentions_of_form mentions (out-Form x.form))
  opened x = fold_out-Expr (List Mention) (List Mention) form_mentions its_mentions x ∙ fold_out-Form (List Mention) (List Mention) form_mentions its_mentions x.form

  node_alike : (x : Expr) → Agree one two (mentions x) → named_node x one ≡ named_node x two
  node_alike x h = node_level (out-Form x.form) (subst (Agree one two) (opened x) h)

  output_alike : (port : Option Kind) (x : Expr) → Agree one two (mentions x) → output port x one ≡ output port x two
  output_alike port x h = ap (λ (n : Option (Outcome NodeValue)). or_wrong n >>= fitting_node port) (node_alike x h)

  arguments_alike : (as' : List CallArg) (args : List (List ℕ × Argument)) → Agree one two (flat_map (λ a. mentions a.value) as') → arguments as' one args ≡ arguments as' two args
  arguments_alike [] args h = refl
  arguments_alike (a ∷ as') args h =
      let ms = flat_map (λ a. mentions a.value) as' in
      let here : Agree one two (mentions a.value) = front (AgreeOn one two) (mentions a.value) ms h in
      let rest : Agree one two ms = behind (AgreeOn one two) (mentions a.value) ms h in
      λ i. or_plain (node_alike a.value here i) (hangs_on_mentions a.value one two here i) >>= (λ x. arguments_alike as' (put a.port.text x args) rest i)

  -- ---- conditions

  holds_alike : (e : Expr) → Agree one two (mentions e) → holds e one ≡ holds e two
  holds_alike e h = ap (λ (o : Outcome Value). o >>= (λ v. bool_of (out-Value v))) (hangs_on_mentions e one two h)

  taken_alike : (e : Option Expr) → Agree one two (condition_mentions e) → is_taken e one ≡ is_taken e two
  taken_alike None h = refl
  taken_alike (Some e) h = holds_alike e h

  arms_alike : (n : ℕ) (arms : List Arm) (other : Option ℕ) → Agree one two (flat_map arm_mentions arms) → picked (numbered_arms n arms) other one ≡ picked (numbered_arms n arms) other two
  arms_alike n [] other h = refl
  arms_alike n (x ∷ xs) other h =
      let ms = flat_map arm_mentions xs in
      let here : holds (out-Arm x).condition one ≡ holds (out-Arm x).condition two = holds_alike (out-Arm x).condition (front (AgreeOn one two) (arm_mentions x) ms h) in
      let rest = arms_alike (n + length (blocks (out-Arm x).block)) xs other (behind (AgreeOn one two) (arm_mentions x) ms h) in
      λ i. here i >>= (λ b. if b then Gives (Some n) else rest i)

-- ---- statements

or_alike : {A : Type 0} (o p : Outcome A) (s t : Noted) (f g : A → Stepped) → o ≡ p → s.outputs ≡ t.outputs → ((x : A) → f x ≡ g x) → or_stops o s f ≡ or_stops p t g
or_alike {A} o p s t f g e q r = ap (λ (z : Outcome A). or_stops z s f) e ∙ by_outcome p
  where
    by_outcome : (z : Outcome A) → or_stops z s f ≡ or_stops z t g
    by_outcome (Gives x) = r x
    by_outcome (Faults y) = ap (stops (Excepted y)) q

-- what is noted, in an environment
abbrev noted_in : Env → Pairs → List (OutLabel × ℕ) → List Call → Noted
noted_in env ctx outputs calls = record { env = env; ctx = ctx; outputs = outputs; calls = calls }

exits_alike : (n : ℕ) (one two : Env) (ctx : Pairs) (outputs : List (OutLabel × ℕ)) (calls : List Call) → exits n (noted_in one ctx outputs calls) ≡ exits n (noted_in two ctx outputs calls)
exits_alike zero one two ctx outputs calls = refl
exits_alike (suc n) one two ctx outputs calls = refl

either : (b : Bool) (t u t' u' : Stepped) → t ≡ t' → u ≡ u' → (if b then t else u) ≡ (if b then t' else u')
either true t u t' u' p q = p
either false t u t' u' p q = q

module _ (before : ℕ) (deep : Bool) (takes : List ℕ → Values → Bool) (kinds : List ℕ → Option Kind) where
  abbrev comes : List Stmt → Noted → Stepped
  comes = statements before deep takes kinds

  call_alike : (c : CallStmt) (one two : Env) (ctx : Pairs) (outputs : List (OutLabel × ℕ)) (calls : List Call) → Agree one two (flat_map (λ a. mentions a.value) c.args)
      → collected before deep takes kinds c (noted_in one ctx outputs calls) ≡ collected before deep takes kinds c (noted_in two ctx outputs calls)
  call_alike c one two ctx outputs calls h = λ i. if deep then Faults Depth
      else (arguments_alike one two c.args [] h i >>= (λ args.
      if takes c.callee.text (values_in args) then Gives (planned before deep takes kinds c (before + length calls + 1) args) else Faults BadInput))

  statements_alike : (ss : List Stmt) (one two : Env) (ctx : Pairs) (outputs : List (OutLabel × ℕ)) (calls : List Call) → Agree one two (flat_map stmt_mentions ss)
      → comes ss (noted_in one ctx outputs calls) ≡ comes ss (noted_in two ctx outputs calls)
  statements_alike [] one two ctx outputs calls h = refl
  statements_alike (stmt.Ctx at key x ∷ ss) one two ctx outputs calls h =
      let ms = flat_map stmt_mentions ss in
      let here = front (AgreeOn one two) (mentions x) ms h in
      let rest = behind (AgreeOn one two) (mentions x) ms h in
      or_alike (val x one) (val x two) (noted_in one ctx outputs calls) (noted_in two ctx outputs calls)
      (λ v. comes ss (with_plain key.text v (noted_in one ctx outputs calls))) (λ v. comes ss (with_plain key.text v (noted_in two ctx outputs calls)))
      (hangs_on_mentions x one two here) refl
      (λ v. statements_alike ss (with_key key.text (Plain v) one) (with_key key.text (Plain v) two) (with_set ctx key.text (held.Plain v)) outputs calls (still one two key.text (Plain v) ms rest))
  statements_alike (stmt.Out at name x ∷ ss) one two ctx outputs calls h =
      let ms = flat_map stmt_mentions ss in
      let here = front (AgreeOn one two) (mentions x) ms h in
      let rest = behind (AgreeOn one two) (mentions x) ms h in
      or_alike (output (kinds name.text) x one) (output (kinds name.text) x two) (noted_in one ctx outputs calls) (noted_in two ctx outputs calls)
      (λ n. comes ss (with_output name.text n.node (noted_in one ctx outputs calls))) (λ n. comes ss (with_output name.text n.node (noted_in two ctx outputs calls)))
      (output_alike one two (kinds name.text) x here) refl
      (λ n. statements_alike ss one two ctx (put name.text n.node outputs) calls rest)
  statements_alike (stmt.Exit x ∷ ss) one two ctx outputs calls h =
      let ms = flat_map stmt_mentions ss in
      let here = front (AgreeOn one two) (exit_mentions x) ms h in
      let rest = behind (AgreeOn one two) (exit_mentions x) ms h in
      let s = noted_in one ctx outputs calls in
      let t = noted_in two ctx outputs calls in
      or_alike (is_taken x.condition one) (is_taken x.condition two) s t
      (λ b. if b then exits (status_of x) s else comes ss s) (λ b. if b then exits (status_of x) t else comes ss t)
      (taken_alike one two x.condition here) refl
      (λ b. either b (exits (status_of x) s) (comes ss s) (exits (status_of x) t) (comes ss t) (exits_alike (status_of x) one two ctx outputs calls)
      (statements_alike ss one two ctx outputs calls rest))
  statements_alike (stmt.Call c ∷ ss) one two ctx outputs calls h =
      let ms = flat_map stmt_mentions ss in
      let here = front (AgreeOn one two) (flat_map (λ a. mentions a.value) c.args) ms h in
      let rest = behind (AgreeOn one two) (flat_map (λ a. mentions a.value) c.args) ms h in
      let s = noted_in one ctx outputs calls in
      let t = noted_in two ctx outputs calls in
      or_alike (collected before deep takes kinds c s) (collected before deep takes kinds c t) s t
      (λ p. comes ss (with_call p s)) (λ p. comes ss (with_call p t))
      (call_alike c one two ctx outputs calls here) refl
      (λ p. statements_alike ss one two ctx outputs (calls ++ p ∷ []) rest)

-- ---- an advance

module _ (library : List Definition) (k : Chain) (depth : ℕ) (one two : Env) (c : Checkpoint) where
  step_alike : (t : Stepped) (fs : List Frame) → after_step library k depth one c t fs ≡ after_step library k depth two c t fs
  step_alike (stops s outputs) fs = refl
  step_alike (makes ctx outputs []) fs = refl
  step_alike (makes ctx outputs (x ∷ xs)) fs = refl

  chosen_alike : (o : Outcome (Option ℕ)) (fs : List Frame) → chosen library k depth one c o fs ≡ chosen library k depth two c o fs
  chosen_alike (Faults r) fs = refl
  chosen_alike (Gives b) fs = refl

  turned_alike : (o : Outcome Bool) (inside outside : List Frame) → turned library k depth one c o inside outside ≡ turned library k depth two c o inside outside
  turned_alike (Faults r) inside outside = refl
  turned_alike (Gives true) inside outside = refl
  turned_alike (Gives false) inside outside = refl

  done_alike : (bs : Blocks) (y : Instr-F Instr Arm Block) (f : Frame) (fs : List Frame) → Agree one two (level_mentions y)
      → done library k depth one c bs y f fs ≡ done library k depth two c bs y f fs
  done_alike bs (Instr-F.Step s) f fs h =
      let same = statements_alike c.calls (nat_le 16 depth) (takes_of library) (kinds_of k.head.outputs) s.stmts one two c.ctx c.outputs [] h in
      ap (λ (t : Stepped). after_step library k depth one c t (past f ∷ fs)) same
      ∙ step_alike (statements c.calls (nat_le 16 depth) (takes_of library) (kinds_of k.head.outputs) s.stmts (noted_in two c.ctx c.outputs [])) (past f ∷ fs)
  done_alike bs (Instr-F.If at arms other) f fs h =
      let n = first_block bs f in
      ap (λ (o : Outcome (Option ℕ)). chosen library k depth one c o (past f ∷ fs)) (arms_alike one two n arms (other_number (after_arms n arms) other) h)
      ∙ chosen_alike (picked (numbered_arms n arms) (other_number (after_arms n arms) other) two) (past f ∷ fs)
  done_alike bs (Instr-F.While at e b) f fs h =
      ap (λ (o : Outcome Bool). turned library k depth one c o (at_head (first_block bs f) ∷ (f ∷ fs)) (past f ∷ fs)) (holds_alike one two e h)
      ∙ turned_alike (holds e two) (at_head (first_block bs f) ∷ (f ∷ fs)) (past f ∷ fs)
  done_alike bs (Instr-F.Return at n) f fs h = refl

  does_alike : (bs : Blocks) (o : Option Instr) (f : Frame) (fs : List Frame)
      → Agree one two (standing_mentions (option_map (λ i. record { instr = i; front = front_of bs f; frame = f; outer = reverse fs }) o))
      → does library k depth one c bs o f fs ≡ does library k depth two c bs o f fs
  does_alike bs None f fs h = refl
  does_alike bs (Some i) f fs h = done_alike bs (out-Instr i) f fs h

  innermost_alike : (bs : Blocks) (fs : List Frame) → Agree one two (standing_mentions (standing bs fs))
      → at_innermost library k depth one c bs fs ≡ at_innermost library k depth two c bs fs
  innermost_alike bs [] h = refl
  innermost_alike bs (f ∷ fs) h = does_alike bs (slice_get (block_of (slice_get bs f.block)) f.next) f fs h

pub advance_alike : (library : List Definition) (k : Chain) (depth : ℕ) (one two : Env) (c : Checkpoint) → Agree one two (next_mentions k c)
    → advance library k depth one c ≡ advance library k depth two c
advance_alike library k depth one two c h = innermost_alike library k depth one two c (blocks k.outline) (popped (blocks k.outline) (reverse c.frames)) h
