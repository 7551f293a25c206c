-- The calls that an advance submits: each is of a definition that takes its arguments.
use Rattle.std.proofs.Common.{inl, inr, ◌≡◌, ◌⊎◌, ℕ, zero, suc, ◌+◌, Bool, true, false, List, [], ◌∷◌, ◌++◌, Option, Some, None, length, map, refl, sym, ap, subst, ◌∙◌}
use Rattle.std.specs.Prelude.{◌≢◌, if◌then◌else◌, nat_le, not, ◌&&◌, ◌||◌, is_none, reverse, slice_get, All}
use Rattle.std.specs.List.{list_all}
use Rattle.std.specs.Str.{bytes_eq}
use Rattle.std.proofs.lemmas.Bool.{and_parts}
use Rattle.std.proofs.lemmas.List.Elements.{All-nil, All-push}
use Rattle.wc_value.specs.Ascending.{before, lookup, put}
use Rattle.wc_value.specs.declared.process.Reason.TheVariants.{BadInput, Depth}
use Rattle.wc_value.specs.declared.value.Kind.{Kind}
use Rattle.wc_value.proofs.Puts.{same_name}
use Rattle.wc_syntax.specs.Findings.{definition_named, given_ports, head_of, is_among, required_names}
use Rattle.wc_syntax.specs.declared.definition.Chain.{Chain}
use Rattle.wc_syntax.specs.declared.definition.Definition.{Definition}
use Rattle.wc_syntax.specs.declared.definition.Port.{Port}
use Rattle.wc_syntax.specs.declared.outline.Arm.{Arm}
use Rattle.wc_syntax.specs.declared.outline.Block.{Block}
use Rattle.wc_syntax.specs.declared.outline.CallArg.{CallArg}
use Rattle.wc_syntax.specs.declared.outline.CallStmt.{CallStmt}
use Rattle.wc_syntax.specs.declared.outline.Instr.{Instr, out-Instr}
use Rattle.wc_syntax.specs.declared.outline.Instr.TheOpen.{Instr-F}
use Rattle.wc_syntax.specs.declared.outline.Stmt.{Stmt}
use Rattle.wc_syntax.specs.declared.outline.Stmt.TheVariants as stmt
use Rattle.wc_state.specs.declared.environment.Env.{Env}
use Rattle.wc_state.specs.declared.record.Checkpoint.{Checkpoint}
use Rattle.wc_state.specs.declared.record.Frame.{Frame}
use Rattle.wc_expression.specs.declared.outcome.Outcome.{Outcome}
use Rattle.wc_expression.specs.declared.outcome.Outcome.TheVariants.{Gives, Faults}
use Rattle.wc_expression.specs.Outcomes.{◌>>=◌}
use Rattle.wc_expression.specs.Val.{val, holds}
use Rattle.wc_semantics.specs.Rules.{Values, is_taken, status_of}
use Rattle.wc_machine.specs.Inputs.{bad_input, least, missing_inputs, wrong_inputs}
use Rattle.wc_semantics.specs.Meaning.{is_good, kinds_of, takes_inputs, takes_of}
use Rattle.wc_semantics.specs.Run.{picked}
use Rattle.wc_semantics.proofs.Induction.{AllOf}
use Rattle.wc_machine.specs.Advances.{Advanced, goes, loops, submits, ends, popped, past, at_head, first_block, numbered_arms, after_arms, other_number, chosen, turned, after_step, done, does, at_innermost, advance}
use Rattle.wc_machine.specs.Outlines.{Blocks, blocks, block_of}
use Rattle.wc_machine.specs.Steps.{Argument, value_of, arguments, named_node, or_plain, values_in, Noted, Stepped, stops, makes, or_stops, exits, with_plain, with_output, with_call, output, planned, collected, statements, Call}
use Rattle.wc_turn_laws.proofs.Named.{HasNode, then_has}
use Rattle.wc_soundness.proofs.Required.{OfCall, OfStep, OfBlocks, GivesRequired}

-- ---- entries by name

-- an entry has the name
abbrev pub Has : {A : Type 0} → List ℕ → List (List ℕ × A) → Type 0
Has n es = is_none (lookup n es) ≡ false

found_or : {A : Type 0} (b : Bool) (x : A) (o : Option A) → is_none o ≡ false → is_none (if b then Some x else o) ≡ false
found_or true x o h = refl
found_or false x o h = h

put_has : {A : Type 0} (n name : List ℕ) (x : A) (es : List (List ℕ × A)) → bytes_eq name n ≡ true → Has n (put name x es)
put_has n name x [] e = ap (λ (b : Bool). is_none (if b then Some x else None)) e
put_has n name x (f ∷ es) e = by (before f.0 name) (bytes_eq f.0 name) (put_has n name x es e)
  where
    by : (b c : Bool) → Has n (put name x es) → Has n (if b then f ∷ put name x es else if c then (name, x) ∷ es else (name, x) ∷ f ∷ es)
    by true c rest = found_or (bytes_eq f.0 n) f.1 (lookup n (put name x es)) rest
    by false true rest = ap (λ (b : Bool). is_none (if b then Some x else lookup n es)) e
    by false false rest = ap (λ (b : Bool). is_none (if b then Some x else lookup n (f ∷ es))) e

put_keeps : {A : Type 0} (n name : List ℕ) (x : A) (es : List (List ℕ × A)) → Has n es → Has n (put name x es)
put_keeps n name x [] h = found_or (bytes_eq name n) x None h
put_keeps n name x (f ∷ es) h = by (before f.0 name) (bytes_eq f.0 name) refl (put_keeps n name x es)
  where
    first : (b : Bool) → is_none (if b then Some f.1 else lookup n es) ≡ false → (is_none (lookup n es) ≡ false → is_none (lookup n (put name x es)) ≡ false)
        → is_none (if b then Some f.1 else lookup n (put name x es)) ≡ false
    first true p rest = refl
    first false p rest = rest p

    instead : (b : Bool) → is_none (if b then Some f.1 else lookup n es) ≡ false → is_none (if b then Some x else lookup n es) ≡ false
    instead true p = refl
    instead false p = p

    by : (b c : Bool) → bytes_eq f.0 name ≡ c → (Has n es → Has n (put name x es)) → Has n (if b then f ∷ put name x es else if c then (name, x) ∷ es else (name, x) ∷ f ∷ es)
    by true c e rest = first (bytes_eq f.0 n) h rest
    by false true e rest =
        instead (bytes_eq name n) (ap (λ (m : List ℕ). is_none (if bytes_eq m n then Some f.1 else lookup n es)) (sym (same_name f.0 name e)) ∙ h)
    by false false e rest = found_or (bytes_eq name n) x (lookup n (f ∷ es)) h

-- the value of an argument is there where the argument is
value_there : (n : List ℕ) (args : List (List ℕ × Argument)) → Has n args → Has n (values_in args)
value_there n [] h = h
value_there n (a ∷ rest) h = by (bytes_eq a.0 n) h (value_there n rest)
  where
    by : (b : Bool) → is_none (if b then Some a.1 else lookup n rest) ≡ false → (Has n rest → Has n (values_in rest))
        → is_none (if b then Some (value_of a.1) else lookup n (values_in rest)) ≡ false
    by true p more = refl
    by false p more = more p

-- ---- inputs that ports take

none_wrong : (ports : List Port) (inputs : Values) → list_all (is_good ports) inputs ≡ true → wrong_inputs ports inputs ≡ []
none_wrong ports [] h = refl
none_wrong ports (i ∷ is) h =
    let b = and_parts (is_good ports i) (list_all (is_good ports) is) h in
    ap (λ (t : Bool). if t then wrong_inputs ports is else i.0 ∷ wrong_inputs ports is) b.0 ∙ none_wrong ports is b.1

none_missing : (ports : List Port) (inputs : Values) → AllOf (λ n. Has n inputs) (required_names ports) → missing_inputs ports inputs ≡ []
none_missing [] inputs h = refl
none_missing (p ∷ ps) inputs h = by p.optional h (none_missing ps inputs)
  where
    by : (b : Bool) → AllOf (λ n. Has n inputs) ((if b then [] else p.name.text ∷ []) ++ required_names ps) → (AllOf (λ n. Has n inputs) (required_names ps) → missing_inputs ps inputs ≡ [])
        → (if not b && is_none (lookup p.name.text inputs) then p.name.text ∷ missing_inputs ps inputs else missing_inputs ps inputs) ≡ []
    by true t rest = rest t
    by false t rest = ap (λ (c : Bool). if c then p.name.text ∷ missing_inputs ps inputs else missing_inputs ps inputs) t.0 ∙ rest t.1

-- ---- a call

-- the callee is there and takes the values of the arguments, and another level may be called
pub record IsTaken (library : List Definition) (depth : ℕ) (x : Call) : Type 0 where
  pub level : nat_le 16 depth ≡ false
  pub definition : Definition
  pub is_there : definition_named x.definition library ≡ Some definition
  pub takes : bad_input (head_of definition).inputs (values_in x.args) ≡ None

any : {A : Type 0} (o : Outcome A) → HasNode (λ x. Unit {0}) o
any (Gives x) = tt
any (Faults r) = tt

has_weaker : {A : Type 0} (P Q : A → Type 0) (o : Outcome A) → ((x : A) → P x → Q x) → HasNode P o → HasNode Q o
has_weaker P Q (Gives x) f h = f x h
has_weaker P Q (Faults r) f h = tt

-- arguments have each port that is given, and those that they had
abbrev AreGiven : List (List ℕ) → List (List ℕ × Argument) → List (List ℕ × Argument) → Type 0
AreGiven names before args = (n : List ℕ) → (is_among n names ≡ true) ⊎ Has n before → Has n args

given_more : (port : List ℕ) (names : List (List ℕ)) (x : Argument) (before : List (List ℕ × Argument)) (args : List (List ℕ × Argument))
    → AreGiven names (put port x before) args → AreGiven (port ∷ names) before args
given_more port names x before args h n (inr has) = h n (inr (put_keeps n port x before has))
given_more port names x before args h n (inl among) = by (bytes_eq port n) refl among
  where
    by : (b : Bool) → bytes_eq port n ≡ b → b || is_among n names ≡ true → Has n args
    by true e p = h n (inr (put_has n port x before e))
    by false e p = h n (inl p)

arguments_give : (as' : List CallArg) (env : Env) (before : List (List ℕ × Argument)) → HasNode (AreGiven (map (λ a. a.port.text) as') before) (arguments as' env before)
arguments_give [] env before = λ n h. elim h [ inl among ↦ absurd (cc) | inr has ↦ has ]
arguments_give (a ∷ rest) env before =
    then_has (λ x. Unit {0}) (AreGiven (map (λ a. a.port.text) (a ∷ rest)) before) (or_plain (named_node a.value env) (val a.value env))
    (λ x. arguments rest env (put a.port.text x before)) (any (or_plain (named_node a.value env) (val a.value env)))
    (λ x t. has_weaker (AreGiven (map (λ a. a.port.text) rest) (put a.port.text x before)) (AreGiven (map (λ a. a.port.text) (a ∷ rest)) before)
    (arguments rest env (put a.port.text x before)) (given_more a.port.text (map (λ a. a.port.text) rest) x before) (arguments_give rest env (put a.port.text x before)))

all_have : (given : List (List ℕ)) (args : List (List ℕ × Argument)) → AreGiven given [] args → (names : List (List ℕ)) → AllOf (λ n. is_among n given ≡ true) names
    → AllOf (λ n. Has n (values_in args)) names
all_have given args h [] t = tt
all_have given args h (n ∷ ns) t = (value_there n args (h n (inl t.0)), all_have given args h ns t.1)

module _ (library : List Definition) (depth before : ℕ) (kinds : List ℕ → Option Kind) where
  taken_by : (c : CallStmt) (number : ℕ) (args : List (List ℕ × Argument)) → nat_le 16 depth ≡ false → GivesRequired library c → AreGiven (given_ports c) [] args
      → (o : Option Definition) → definition_named c.callee.text library ≡ o → takes_inputs o (values_in args) ≡ true
      → IsTaken library depth (planned before (nat_le 16 depth) (takes_of library) kinds c number args)
  taken_by c number args level gives given None is takes = absurd (cc)
  taken_by c number args level gives given (Some d) is takes = record {
    level = level;
    definition = d;
    is_there = is;
    takes =
        (λ i. least (none_wrong (head_of d).inputs (values_in args) takes i ++ none_missing (head_of d).inputs (values_in args)
        (all_have (given_ports c) args given (required_names (head_of d).inputs) (gives d is)) i));
  }

  collected_taken : (c : CallStmt) (s : Noted) → GivesRequired library c → HasNode (IsTaken library depth) (collected before (nat_le 16 depth) (takes_of library) kinds c s)
  collected_taken c s gives = if_deep (nat_le 16 depth) refl
    where
      if_takes : nat_le 16 depth ≡ false → (args : List (List ℕ × Argument)) → AreGiven (given_ports c) [] args → (b : Bool) → takes_of library c.callee.text (values_in args) ≡ b
          → HasNode (IsTaken library depth) (if b then Gives (planned before (nat_le 16 depth) (takes_of library) kinds c (before + length s.calls + 1) args) else Faults BadInput)
      if_takes level args given true e = taken_by c (before + length s.calls + 1) args level gives given (definition_named c.callee.text library) refl e
      if_takes level args given false e = tt

      if_deep : (b : Bool) → nat_le 16 depth ≡ b → HasNode (IsTaken library depth)
          (if b then Faults Depth
          else (arguments c.args s.env [] >>= (λ args.
          if takes_of library c.callee.text (values_in args) then Gives (planned before (nat_le 16 depth) (takes_of library) kinds c (before + length s.calls + 1) args) else Faults BadInput)))
      if_deep true level = tt
      if_deep false level =
          then_has (AreGiven (given_ports c) []) (IsTaken library depth) (arguments c.args s.env []) _ (arguments_give c.args s.env [])
          (λ args given. if_takes level args given (takes_of library c.callee.text (values_in args)) refl)

  -- ---- statements

  abbrev Leaves : Stepped → Type 0
  Leaves (stops s outputs) = Unit {0}
  Leaves (makes ctx outputs calls) = All (IsTaken library depth) calls

  leaves_or : {A : Type 0} (T : A → Type 0) (o : Outcome A) (s : Noted) (f : A → Stepped) → HasNode T o → ((x : A) → T x → Leaves (f x)) → Leaves (or_stops o s f)
  leaves_or T (Gives x) s f t q = q x t
  leaves_or T (Faults r) s f t q = tt

  leaves_if : (b : Bool) (x y : Stepped) → Leaves x → Leaves y → Leaves (if b then x else y)
  leaves_if true x y p q = p
  leaves_if false x y p q = q

  leaves_exits : (n : ℕ) (s : Noted) → All (IsTaken library depth) s.calls → Leaves (exits n s)
  leaves_exits zero s h = h
  leaves_exits (suc n) s h = tt

  statements_leave : (ss : List Stmt) (s : Noted) → AllOf (OfCall (GivesRequired library)) ss → All (IsTaken library depth) s.calls
      → Leaves (statements before (nat_le 16 depth) (takes_of library) kinds ss s)
  statements_leave [] s g h = h
  statements_leave (stmt.Ctx at key x ∷ ss) s g h =
      leaves_or (λ v. Unit {0}) (val x s.env) s _ (any (val x s.env)) (λ v t. statements_leave ss (with_plain key.text v s) g.1 h)
  statements_leave (stmt.Out at name x ∷ ss) s g h =
      leaves_or (λ n. Unit {0}) (output (kinds name.text) x s.env) s _ (any (output (kinds name.text) x s.env)) (λ n t. statements_leave ss (with_output name.text n.node s) g.1 h)
  statements_leave (stmt.Exit x ∷ ss) s g h =
      leaves_or (λ b. Unit {0}) (is_taken x.condition s.env) s _ (any (is_taken x.condition s.env)) (λ b t. leaves_if b _ _ (leaves_exits (status_of x) s h) (statements_leave ss s g.1 h))
  statements_leave (stmt.Call c ∷ ss) s g h =
      leaves_or (IsTaken library depth) (collected before (nat_le 16 depth) (takes_of library) kinds c s) s _ (collected_taken c s g.0)
      (λ p t. statements_leave ss (with_call p s) g.1 (All-push (IsTaken library depth) s.calls p h t))

-- ---- the next instruction

-- calls are submitted, and each is taken
abbrev pub AreTaken : List Definition → ℕ → Advanced → Type 0
AreTaken library depth (goes d) = Unit {0}
AreTaken library depth (loops d) = Unit {0}
AreTaken library depth (submits d calls) = (length calls ≢ 0) × All (IsTaken library depth) calls
AreTaken library depth (ends s outputs) = Unit {0}

-- what holds of each element holds of the one at a place
at_place : {A : Type 0} (P : A → Type 0) (xs : List A) (n : ℕ) (x : A) → AllOf P xs → slice_get xs n ≡ Some x → P x
at_place P [] n x h e = absurd (cc)
at_place P (y ∷ ys) zero x h e = let same : y ≡ x = cc in subst P same h.0
at_place P (y ∷ ys) (suc n) x h e = at_place P ys n x h.1 e

module _ (library : List Definition) (k : Chain) (depth : ℕ) (env : Env) (c : Checkpoint) (good : OfBlocks (GivesRequired library) (blocks k.outline)) where
  chosen_taken : (o : Outcome (Option ℕ)) (fs : List Frame) → AreTaken library depth (chosen library k depth env c o fs)
  chosen_taken (Gives b) fs = tt
  chosen_taken (Faults r) fs = tt

  turned_taken : (o : Outcome Bool) (inside outside : List Frame) → AreTaken library depth (turned library k depth env c o inside outside)
  turned_taken (Gives true) inside outside = tt
  turned_taken (Gives false) inside outside = tt
  turned_taken (Faults r) inside outside = tt

  step_taken : (x : Stepped) (fs : List Frame) → Leaves library depth c.calls (kinds_of k.head.outputs) x → AreTaken library depth (after_step library k depth env c x fs)
  step_taken (stops s outputs) fs h = tt
  step_taken (makes ctx outputs []) fs h = tt
  step_taken (makes ctx outputs (x ∷ xs)) fs h = ((λ e. absurd (cc)), h)

  done_taken : (bs : Blocks) (y : Instr-F Instr Arm Block) (f : Frame) (fs : List Frame) → OfStep (GivesRequired library) y → AreTaken library depth (done library k depth env c bs y f fs)
  done_taken bs (Instr-F.Step s) f fs g = step_taken _ (past f ∷ fs)
      (statements_leave library depth c.calls (kinds_of k.head.outputs) s.stmts (record { env = env; ctx = c.ctx; outputs = c.outputs; calls = [] }) g (All-nil (IsTaken library depth)))
  done_taken bs (Instr-F.If at arms other) f fs g =
      chosen_taken (picked (numbered_arms (first_block bs f) arms) (other_number (after_arms (first_block bs f) arms) other) env) (past f ∷ fs)
  done_taken bs (Instr-F.While at x b) f fs g = turned_taken (holds x env) (at_head (first_block bs f) ∷ (f ∷ fs)) (past f ∷ fs)
  done_taken bs (Instr-F.Return at n) f fs g = tt

  step_of : (f : Frame) (i : Instr) (o : Option (List Instr)) → slice_get (blocks k.outline) f.block ≡ o → slice_get (block_of o) f.next ≡ Some i
      → OfStep (GivesRequired library) (out-Instr i)
  step_of f i None p q = absurd (cc)
  step_of f i (Some is) p q =
      at_place (λ j. OfStep (GivesRequired library) (out-Instr j)) is f.next i (at_place (AllOf (λ j. OfStep (GivesRequired library) (out-Instr j))) (blocks k.outline) f.block is good p) q

  does_taken : (x : Option Instr) (f : Frame) (fs : List Frame) → slice_get (block_of (slice_get (blocks k.outline) f.block)) f.next ≡ x
      → AreTaken library depth (does library k depth env c (blocks k.outline) x f fs)
  does_taken None f fs is = tt
  does_taken (Some i) f fs is = done_taken (blocks k.outline) (out-Instr i) f fs (step_of f i (slice_get (blocks k.outline) f.block) refl is)

  innermost_taken : (fs : List Frame) → AreTaken library depth (at_innermost library k depth env c (blocks k.outline) fs)
  innermost_taken [] = tt
  innermost_taken (f ∷ fs) = does_taken (slice_get (block_of (slice_get (blocks k.outline) f.block)) f.next) f fs refl

  -- Each call that an advance submits is taken.
  pub advance_taken : AreTaken library depth (advance library k depth env c)
  advance_taken = innermost_taken (popped (blocks k.outline) (reverse c.frames))
