-- A run that gives an end has a cost.
use Rattle.std.proofs.Common.{◌≡◌, ℕ, zero, suc, ◌+◌, Bool, true, false, List, [], ◌∷◌, ◌++◌, Option, Some, None, map, refl, sym, ap, subst, ◌∙◌, arith}
use Rattle.std.specs.Prelude.{if◌then◌else◌, length, option_map, option_and_then}
use Rattle.wc_value.specs.declared.process.ProcessState.TheVariants.{Killed}
use Rattle.wc_value.specs.declared.process.Tree.{Tree}
use Rattle.wc_syntax.specs.declared.expression.Expr.{Expr}
use Rattle.wc_syntax.specs.declared.outline.Instr.{Instr, out-Instr}
use Rattle.wc_syntax.specs.declared.outline.Instr.TheOpen.{Instr-F}
use Rattle.wc_syntax.specs.declared.outline.Arm.{Arm}
use Rattle.wc_syntax.specs.declared.outline.Block.{Block}
use Rattle.wc_state.specs.declared.environment.Env.{Env}
use Rattle.wc_expression.specs.declared.outcome.Outcome.{Outcome}
use Rattle.wc_expression.specs.declared.outcome.Outcome.TheVariants.{Gives, Faults}
use Rattle.wc_expression.specs.Outcomes.{mapped}
use Rattle.wc_expression.specs.Val.{holds}
use Rattle.wc_semantics.specs.Rules.{Values}
use Rattle.wc_semantics.specs.declared.progress.Answer.{Answer}
use Rattle.wc_semantics.specs.declared.progress.Answer.TheVariants.{Gave, TooLittle, Without, Astray}
use Rattle.wc_semantics.specs.declared.progress.Flow.{Flow}
use Rattle.wc_semantics.specs.declared.progress.Flow.TheVariants.{Goes, Ends, NoFuel, Lacks, Off}
use Rattle.wc_semantics.specs.declared.progress.Planned.{Planned}
use Rattle.wc_semantics.specs.declared.progress.Progress.{Progress}
use Rattle.wc_semantics.specs.declared.progress.Replayed.{Replayed}
use Rattle.wc_semantics.specs.declared.progress.Stepped.{Stepped}
use Rattle.wc_semantics.specs.declared.progress.Stepped.TheVariants.{Stops, Makes}
use Rattle.wc_semantics.specs.Tables.{Label}
use Rattle.wc_semantics.specs.Statements.{statements}
use Rattle.wc_semantics.specs.Run.{Call, Around, Act, ◌>->◌, spend, taken, by_value, label, next_label, with_call, take_calls, is_stop, stopped, after, test, picked, turns, exec, run_block, run, instrs}
use Rattle.wc_semantics.specs.Laws.{arm_block, arm_list, else_list}
use Rattle.wc_semantics.proofs.Induction.{AllOf, OptionOf, Inside, every_list}
use Rattle.wc_semantics.proofs.Acts.{opened, exec_is, block_is, picked_lists}
use Rattle.wc_semantics.proofs.Frugal.{Picks, picks}
use Rattle.wc_cost.specs.Cost.{Due, Tolls, more, by_pick, bill, step_cost, front_cost, cost, unasked, bare, bare_calls}
use Rattle.wc_cost.proofs.Cost.{KeepsDue, bill_keeps, cost_keeps, kept}

-- ---- progress with nothing asked

bare_length : (cs : List (Label × Replayed)) → length (bare_calls cs) ≡ length cs
bare_length [] = refl
bare_length (c ∷ cs) = ap suc (bare_length cs)

bare_behind : (cs : List (Label × Replayed)) (l : Label) (t : Replayed) → bare_calls (cs ++ (l, t) ∷ []) ≡ bare_calls cs ++ (l, unasked t.tree) ∷ []
bare_behind [] l t = refl
bare_behind (c ∷ cs) l t = ap (λ (ds : List (Label × Replayed)). (c.0, unasked c.1.tree) ∷ ds) (bare_behind cs l t)

pub bare_label : (p : Planned) (e : Progress) → next_label p (bare e) ≡ next_label p e
bare_label p e = ap (λ (n : ℕ). label p.key (n + 1)) (bare_length e.calls)

pub bare_with : (p : Planned) (e : Progress) (t : Replayed) → with_call p (next_label p (bare e)) (unasked t.tree) (bare e) ≡ bare (with_call p (next_label p e) t e)
bare_with p e t =
    ap (λ (l : Label). with_call p l (unasked t.tree) (bare e)) (bare_label p e)
    ∙ ap (λ (cs : List (Label × Replayed)). record { env = (with_call p (next_label p e) t e).env; outputs = e.outputs; calls = cs }) (sym (bare_behind e.calls (next_label p e) t))

-- ---- fair tolls

-- what is due for a call that gives a tree
abbrev pub Dues : Call → Due → Type 0
Dues call due = (l : Label) (n : ℕ) (name : List ℕ) (inputs : Values) (t : Replayed) (m : ℕ) → call l n name inputs ≡ Gave t m
    → (b : ℕ) × (k : ℕ) × (due l b name inputs ≡ Some (t.tree, k))

-- a run's surroundings, without a stop, and its tolls
pub record Fair (a : Around) (g : Tolls) : Type 0 where
  pub deep : g.deep ≡ a.deep
  pub takes : g.takes ≡ a.takes
  pub kinds : g.kinds ≡ a.kinds
  pub stop : a.stop ≡ None
  pub dues : Dues a.call g.due
  pub keeps : KeepsDue g.due

module _ (g : Tolls) where
  abbrev pub Costed : List Instr → Progress → Type 0
  Costed is e = (b : ℕ) × (k : ℕ) × (cost g b is e ≡ Some k)

  -- where it goes on, with every list behind that has a cost from there; where it ends, with every list
  abbrev pub Pays : (List Instr → Type 0) → Flow → Type 0
  Pays G (Goes m e) = (js : List Instr) → Costed js (bare e) → G js
  Pays G (Ends s m e) = (js : List Instr) → G js
  Pays G NoFuel = Unit {0}
  Pays G (Lacks q) = Unit {0}
  Pays G Off = Unit {0}

  pays_more : (G H : List Instr → Type 0) → ((js : List Instr) → G js → H js) → (f : Flow) → Pays G f → Pays H f
  pays_more G H h (Goes m e) p = λ js d. h js (p js d)
  pays_more G H h (Ends s m e) p = λ js. h js (p js)
  pays_more G H h NoFuel p = tt
  pays_more G H h (Lacks q) p = tt
  pays_more G H h Off p = tt

  pays_follow : (G : List Instr → Type 0) (ys : List Instr) (f : Flow) (h : ℕ → Progress → Flow) → Pays G f
      → ((m : ℕ) (e : Progress) → Pays (λ js. Costed (ys ++ js) (bare e)) (h m e)) → Pays (λ js. G (ys ++ js)) (f >-> h)
  pays_follow G ys (Goes m e) h p q = pays_more (λ js. Costed (ys ++ js) (bare e)) (λ js. G (ys ++ js)) (λ js d. p (ys ++ js) d) (h m e) (q m e)
  pays_follow G ys (Ends s m e) h p q = λ js. p (ys ++ js)
  pays_follow G ys NoFuel h p q = tt
  pays_follow G ys (Lacks r) h p q = tt
  pays_follow G ys Off h p q = tt

  spend_pays : (G : List Instr → Type 0) (n : ℕ) (f : ℕ → Flow) → ((m : ℕ) → Pays G (f m)) → Pays G (spend n f)
  spend_pays G zero f p = tt
  spend_pays G (suc n) f p = p n

  -- what is left to pay after a first instruction of the form y has a value
  abbrev pub FrontCosted : Instr-F Instr Arm Block → Instr → List Instr → Progress → Type 0
  FrontCosted y i is e = (b : ℕ) × (k : ℕ) × (front_cost g y i (cost g b) b is e ≡ Some k)

  front_is : (i : Instr) (is : List Instr) (e : Progress) → FrontCosted (out-Instr i) i is e → Costed (i ∷ is) e
  front_is i is e p = (suc p.0, 1 + p.1, ap (more 1) p.2)

  abbrev WhileCosted : Outcome Bool → List Instr → List Instr → Progress → Type 0
  WhileCosted o is js e = (b : ℕ) × (k : ℕ) × (by_pick o (λ t. if t then cost g b is e else cost g b js e) ≡ Some k)

  while_pays : (o : Outcome Bool) (is : List Instr → List Instr) (n : ℕ) (e : Progress) (f h : Flow) → Pays (λ js. Costed (is js) (bare e)) f → Pays (λ js. Costed js (bare e)) h
      → Pays (λ js. WhileCosted o (is js) js (bare e)) (test o n e f h)
  while_pays (Faults r) is n e f h p q = λ js. (0, 0, refl)
  while_pays (Gives true) is n e f h p q = p_is f p
    where
      p_is : (f : Flow) → Pays (λ js. Costed (is js) (bare e)) f → Pays (λ js. WhileCosted (Gives true) (is js) js (bare e)) f
      p_is f p = p
  while_pays (Gives false) is n e f h p q = q

  module _ (a : Around) (x : Fair a g) where
    abbrev pub Billed : List Planned → Progress → Flow → Type 0
    Billed ps e (Goes m d) = (b : ℕ) × (k : ℕ) × (bill g b ps (bare e) ≡ Some (k, bare d))
    Billed ps e (Ends s m d) = ⊥
    Billed ps e NoFuel = Unit {0}
    Billed ps e (Lacks q) = Unit {0}
    Billed ps e Off = Unit {0}

    one_bill : (p : Planned) (ps : List Planned) (e : Progress) (t : Replayed) (b k b' k' : ℕ) (d : Progress) → g.due (next_label p (bare e)) b p.callee p.inputs ≡ Some (t.tree, k)
        → bill g b' ps (bare (with_call p (next_label p e) t e)) ≡ Some (k', d) → bill g (b + b') (p ∷ ps) (bare e) ≡ Some (k + k', d)
    one_bill p ps e t b k b' k' d h h' =
        let then_at : Progress = with_call p (next_label p (bare e)) (unasked t.tree) (bare e) in
        let here : bill g b' ps then_at ≡ Some (k', d) = ap (bill g b' ps) (bare_with p e t) ∙ h' in
        let u : g.due (next_label p (bare e)) (b + b') p.callee p.inputs ≡ Some (t.tree, k) =
        kept (g.due (next_label p (bare e)) b p.callee p.inputs) (g.due (next_label p (bare e)) (b + b') p.callee p.inputs) (t.tree, k) h (x.keeps (next_label p (bare e)) b (b + b') p.callee p.inputs (omega arith)) in
        let v : bill g (b + b') ps then_at ≡ Some (k', d) =
        kept (bill g b' ps then_at) (bill g (b + b') ps then_at) (k', d) here (bill_keeps g x.keeps b' (b + b') (omega arith) ps then_at) in
        ap (option_and_then (λ (z : Tree × ℕ). option_map (λ (r : ℕ × Progress). (z.1 + r.0, r.1)) (bill g (b + b') ps (with_call p (next_label p (bare e)) (unasked z.0) (bare e))))) u
        ∙ ap (option_map (λ (r : ℕ × Progress). (k + r.0, r.1))) v

    take_more : (p : Planned) (ps : List Planned) (e : Progress) (t : Replayed) (b k : ℕ) → g.due (next_label p (bare e)) b p.callee p.inputs ≡ Some (t.tree, k)
        → (f : Flow) → Billed ps (with_call p (next_label p e) t e) f → Billed (p ∷ ps) e f
    take_more p ps e t b k h (Goes m d) q = (b + q.0, k + q.1, one_bill p ps e t b k q.0 q.1 (bare d) h q.2)
    take_more p ps e t b k h (Ends s m d) q = q
    take_more p ps e t b k h NoFuel q = tt
    take_more p ps e t b k h (Lacks r) q = tt
    take_more p ps e t b k h Off q = tt

    take_given : (p : Planned) (ps : List Planned) (n : ℕ) (e : Progress) (y : Answer) → a.call (next_label p (bare e)) n p.callee p.inputs ≡ y
        → ((left : ℕ) (d : Progress) → Billed ps d (take_calls ps a left d)) → Billed (p ∷ ps) e (taken y (λ t left. take_calls ps a left (with_call p (next_label p e) t e)))
    take_given p ps n e (Gave t left) h r =
        let d = x.dues (next_label p (bare e)) n p.callee p.inputs t left h in
        take_more p ps e t d.0 d.1 d.2 (take_calls ps a left (with_call p (next_label p e) t e)) (r left (with_call p (next_label p e) t e))
    take_given p ps n e TooLittle h r = tt
    take_given p ps n e (Without q) h r = tt
    take_given p ps n e Astray h r = tt

    pub take_billed : (ps : List Planned) (n : ℕ) (e : Progress) → Billed ps e (take_calls ps a n e)
    take_billed [] n e = (0, 0, refl)
    take_billed (p ∷ ps) zero e = tt
    take_billed (p ∷ ps) (suc n) e = take_given p ps n e (a.call (next_label p e) n p.callee p.inputs) (ap (λ (l : Label). a.call l n p.callee p.inputs) (bare_label p e)) (λ left d. take_billed ps left d)

    abbrev StepCosted : Stepped → List Instr → Progress → Type 0
    StepCosted t is e = (b : ℕ) × (k : ℕ) × (step_cost g t (cost g b) b is e ≡ Some k)

    made : (p : Planned) (ps : List Planned) (env : Env) (outs : Values) (e : Progress) (f : Flow) → Billed (p ∷ ps) (record { env = env; outputs = outs; calls = e.calls }) f
        → Pays (λ js. StepCosted (Makes (p ∷ ps) env outs) js (bare e)) (f >-> stopped a)
    made p ps env outs e (Goes m d) q = subst (λ (s : Option ℕ). Pays (λ js. StepCosted (Makes (p ∷ ps) env outs) js (bare e)) (if is_stop s (length d.calls) then Ends Killed m d else Goes m d)) (sym x.stop)
        (λ js c.
        let e' : Progress = record { env = env; outputs = outs; calls = bare_calls e.calls } in
        let u : bill g (q.0 + c.0) (p ∷ ps) e' ≡ Some (q.1, bare d) = kept (bill g q.0 (p ∷ ps) e') (bill g (q.0 + c.0) (p ∷ ps) e') (q.1, bare d) q.2 (bill_keeps g x.keeps q.0 (q.0 + c.0) (omega arith) (p ∷ ps) e') in
        let v : cost g (q.0 + c.0) js (bare d) ≡ Some c.1 = kept (cost g c.0 js (bare d)) (cost g (q.0 + c.0) js (bare d)) c.1 c.2 (cost_keeps g x.keeps c.0 (q.0 + c.0) (omega arith) js (bare d)) in
        (q.0 + c.0, (1 + q.1) + c.1, ap (option_and_then (λ (r : ℕ × Progress). more (1 + r.0) (cost g (q.0 + c.0) js r.1))) u ∙ ap (more (1 + q.1)) v))
    made p ps env outs e (Ends s m d) q = absurd q
    made p ps env outs e NoFuel q = tt
    made p ps env outs e (Lacks r) q = tt
    made p ps env outs e Off q = tt

    step_pays : (t : Stepped) (n : ℕ) (e : Progress) → Pays (λ js. StepCosted t js (bare e)) (after t a n e)
    step_pays (Stops s env outs) n e = λ js. (0, 0, refl)
    step_pays (Makes [] env outs) n e = λ js d. d
    step_pays (Makes (p ∷ ps) env outs) n e = made p ps env outs e (take_calls (p ∷ ps) a n (record { env = env; outputs = outs; calls = e.calls }))
        (take_billed (p ∷ ps) n (record { env = env; outputs = outs; calls = e.calls }))

    -- ---- instructions

    abbrev Before : List Instr → Act → Type 0
    Before is y = (n : ℕ) (e : Progress) → Pays (λ js. Costed (is ++ js) (bare e)) (y a n e)

    all_pays : (is : List Instr) → AllOf (λ i. Before (i ∷ []) (exec i)) is → Before is (run is)
    all_pays [] t n e = λ js d. d
    all_pays (i ∷ is) t n e = pays_follow (λ js. Costed (i ∷ js) (bare e)) is (exec i a n e) (run is a) (t.0 n e) (λ m d. all_pays is t.1 m d)

    turns_pays : (i : Instr) (c : Expr) (b : Block) → ((js : List Instr) (e : Progress) → WhileCosted (holds c e.env) (instrs b ++ i ∷ js) js e → Costed (i ∷ js) e)
        → Before (instrs b) (run_block b) → (most n : ℕ) (e : Progress) → Pays (λ js. Costed (i ∷ js) (bare e)) (turns most c (run_block b) a n e)
    turns_pays i c b h t zero n e = pays_more (λ js. WhileCosted (holds c e.env) (instrs b ++ i ∷ js) js (bare e)) (λ js. Costed (i ∷ js) (bare e)) (λ js d. h js (bare e) d) (turns zero c (run_block b) a n e)
        (while_pays (holds c e.env) (λ js. instrs b ++ i ∷ js) n e NoFuel (Goes n e) tt (λ js d. d))
    turns_pays i c b h t (suc most) n e = pays_more (λ js. WhileCosted (holds c e.env) (instrs b ++ i ∷ js) js (bare e)) (λ js. Costed (i ∷ js) (bare e)) (λ js d. h js (bare e) d) (turns (suc most) c (run_block b) a n e)
        (while_pays (holds c e.env) (λ js. instrs b ++ i ∷ js) n e _ (Goes n e)
        (spend_pays (λ js. Costed (instrs b ++ i ∷ js) (bare e)) n _
        (λ m. pays_follow (λ js. Costed (instrs b ++ js) (bare e)) (i ∷ []) (run_block b a m e) (turns most c (run_block b) a) (t m e) (λ k d. turns_pays i c b h t most k d)))
        (λ js d. d))

    value_pays : (o : Outcome (List Instr)) (n : ℕ) (e : Progress) → Picks (λ js. Before js (run js)) o
        → Pays (λ js. (b : ℕ) × (k : ℕ) × (by_pick o (λ is. cost g b (is ++ js) (bare e)) ≡ Some k)) (by_value (mapped run o) n e (λ y. y a n e))
    value_pays (Gives is) n e t = t n e
    value_pays (Faults r) n e t = λ js. (0, 0, refl)

    blocks_pay : (arms : List Arm) → AllOf (λ x. Before (instrs (arm_block x)) (run_block (arm_block x))) arms → AllOf (λ x. Before (instrs (arm_block x)) (run (instrs (arm_block x)))) arms
    blocks_pay [] t = tt
    blocks_pay (y ∷ ys) t = (subst (Before (instrs (arm_block y))) (block_is (arm_block y)) t.0, blocks_pay ys t.1)

    else_pays : (other : Option Block) → OptionOf (λ b. Before (instrs b) (run_block b)) other → Before (else_list other) (run (else_list other))
    else_pays None t = λ n e js d. d
    else_pays (Some b) t = subst (Before (instrs b)) (block_is b) t

    opened_pays : (y : Instr-F Instr Arm Block) (i : Instr) → ((js : List Instr) (e : Progress) → FrontCosted y i js e → Costed (i ∷ js) e)
        → Inside (λ b. Before (instrs b) (run_block b)) y → Before (i ∷ []) (opened y)
    opened_pays (Instr-F.Step s) i h t n e = pays_more (λ js. FrontCosted (Instr-F.Step s) i js (bare e)) (λ js. Costed (i ∷ js) (bare e)) (λ js d. h js (bare e) d) (opened (Instr-F.Step s) a n e)
        (subst (λ (z : Stepped). Pays (λ js. StepCosted z js (bare e)) (after (statements a.deep a.takes a.kinds s.stmts [] e.env e.outputs) a n e))
        (λ j. statements (sym x.deep j) (sym x.takes j) (sym x.kinds j) s.stmts [] e.env e.outputs)
        (step_pays (statements a.deep a.takes a.kinds s.stmts [] e.env e.outputs) n e))
    opened_pays (Instr-F.If at arms other) i h t n e = pays_more (λ js. FrontCosted (Instr-F.If at arms other) i js (bare e)) (λ js. Costed (i ∷ js) (bare e)) (λ js d. h js (bare e) d) (opened (Instr-F.If at arms other) a n e)
        (subst (λ (o : Outcome Act). Pays (λ js. FrontCosted (Instr-F.If at arms other) i js (bare e)) (by_value o n e (λ y. y a n e))) (sym (picked_lists arms other e.env))
        (value_pays (picked (map arm_list arms) (else_list other) e.env) n e
        (picks (λ js. Before js (run js)) arms other e.env (blocks_pay arms t.0) (else_pays other t.1))))
    opened_pays (Instr-F.While at c b) i h t n e = turns_pays i c b h t n n e
    opened_pays (Instr-F.Return at code) i h t n e = λ js. h js (bare e) (0, 0, refl)

    exec_pays : (i : Instr) → Inside (λ b. Before (instrs b) (run_block b)) (out-Instr i) → Before (i ∷ []) (exec i)
    exec_pays i t = subst (Before (i ∷ [])) (sym (exec_is i)) (opened_pays (out-Instr i) i (λ js e. front_is i js e) t)

    many_pays : (b : Block) → AllOf (λ i. Before (i ∷ []) (exec i)) (instrs b) → Before (instrs b) (run_block b)
    many_pays b t = subst (Before (instrs b)) (sym (block_is b)) (all_pays (instrs b) t)

    pub run_pays : (is : List Instr) → Before is (run is)
    run_pays is = all_pays is (every_list (λ i. Before (i ∷ []) (exec i)) (λ b. Before (instrs b) (run_block b)) exec_pays many_pays is)

    right_unit : (is : List Instr) → is ++ [] ≡ is
    right_unit [] = refl
    right_unit (i ∷ is) = ap (λ (l : List Instr). i ∷ l) (right_unit is)

    -- an end, also one past the last instruction
    abbrev pub AnEnd : Flow → Type 0
    AnEnd (Goes m e) = Unit {0}
    AnEnd (Ends s m e) = Unit {0}
    AnEnd NoFuel = ⊥
    AnEnd (Lacks q) = ⊥
    AnEnd Off = ⊥

    paid : (is : List Instr) (e : Progress) (f : Flow) → AnEnd f → Pays (λ js. Costed (is ++ js) (bare e)) f → Costed (is ++ []) (bare e)
    paid is e (Goes m d) h p = p [] (1, 1, refl)
    paid is e (Ends s m d) h p = p []
    paid is e NoFuel h p = absurd h
    paid is e (Lacks q) h p = absurd h
    paid is e Off h p = absurd h

    -- A run that gives an end has a cost.
    pub run_costed : (is : List Instr) (n : ℕ) (e : Progress) → AnEnd (run is a n e) → Costed is (bare e)
    run_costed is n e h = subst (λ (l : List Instr). Costed l (bare e)) (right_unit is) (paid is e (run is a n e) h (run_pays is n e))
