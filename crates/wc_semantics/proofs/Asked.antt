-- The calls that a run adds to its progress, and that a definition means the same with another table that has what was asked.
use Rattle.std.proofs.Common.{◌≡◌, ℕ, zero, suc, Bool, true, false, List, [], ◌∷◌, ◌++◌, Option, Some, None, map, refl, sym, ap, subst, ◌∙◌, append_assoc}
use Rattle.std.specs.Prelude.{if◌then◌else◌, length, flat_map}
use Rattle.std.specs.List.{AllByRecursion as Each}
use Rattle.std.proofs.lemmas.List.{append-nil}
use Rattle.wc_value.specs.declared.process.JobResult.{JobResult}
use Rattle.wc_value.specs.declared.process.ProcessState.{ProcessState}
use Rattle.wc_value.specs.declared.process.ProcessState.TheVariants.{Finished, Killed}
use Rattle.wc_value.specs.declared.process.Request.{Request}
use Rattle.wc_syntax.specs.Findings.{definition_named}
use Rattle.wc_syntax.specs.declared.definition.Chain.{Chain}
use Rattle.wc_syntax.specs.declared.definition.Definition.{Definition}
use Rattle.wc_syntax.specs.declared.definition.Definition.TheVariants as definition
use Rattle.wc_syntax.specs.declared.definition.Port.{Port}
use Rattle.wc_syntax.specs.declared.expression.Expr.{Expr}
use Rattle.wc_syntax.specs.declared.outline.Instr.{Instr, out-Instr}
use Rattle.wc_syntax.specs.declared.outline.Instr.TheOpen.{Instr-F}
use Rattle.wc_syntax.specs.declared.outline.Arm.{Arm}
use Rattle.wc_syntax.specs.declared.outline.Block.{Block}
use Rattle.wc_syntax.specs.declared.outline.Stmt.{Stmt}
use Rattle.wc_expression.specs.declared.outcome.Outcome.{Outcome}
use Rattle.wc_expression.specs.declared.outcome.Outcome.TheVariants.{Gives, Faults}
use Rattle.wc_expression.specs.Outcomes.{mapped}
use Rattle.wc_expression.specs.Val.{holds}
use Rattle.wc_semantics.specs.declared.outcomes.Parsed.{Parsed}
use Rattle.wc_semantics.specs.Rules.{Values}
use Rattle.wc_semantics.specs.Requests.{request}
use Rattle.wc_semantics.specs.Outcomes.{parsed}
use Rattle.wc_semantics.specs.declared.progress.Answer.{Answer}
use Rattle.wc_semantics.specs.declared.progress.Answer.TheVariants.{Gave, TooLittle, Without, Astray}
use Rattle.wc_semantics.specs.declared.progress.Flow.{Flow}
use Rattle.wc_semantics.specs.declared.progress.Flow.TheVariants.{Goes, Ends, NoFuel, Lacks, Off}
use Rattle.wc_semantics.specs.declared.progress.Planned.{Planned}
use Rattle.wc_semantics.specs.declared.progress.Progress.{Progress}
use Rattle.wc_semantics.specs.declared.progress.Replayed.{Replayed}
use Rattle.wc_semantics.specs.declared.progress.Stepped.{Stepped}
use Rattle.wc_semantics.specs.declared.progress.Stepped.TheVariants.{Stops, Makes}
use Rattle.wc_semantics.specs.Tables.{Label, Path, Table, Kills, under}
use Rattle.wc_semantics.specs.Statements.{statements}
use Rattle.wc_semantics.specs.Run.{Call, Around, Act, ◌>->◌, spend, taken, by_value, next_label, with_call, take_calls, is_stop, stopped, make_calls, after, step_of, test, picked, turns, exec, run_block, run, instrs}
use Rattle.wc_semantics.specs.Meaning.{ended, first, from_caller, its_asked, strays, judged, chain_tree, within, chain, by_result, job, whole, cut, by_kill, surrounding, meaning}
use Rattle.wc_semantics.specs.Laws.{arm_block, arm_list, else_list}
use Rattle.wc_semantics.proofs.Induction.{AllOf, OptionOf, Inside, every_list}
use Rattle.wc_semantics.proofs.Acts.{opened, exec_is, block_is, picked_lists}
use Rattle.wc_semantics.proofs.Frugal.{Picks, picks}

-- ---- the calls of a run

-- a call that was made, under its label
abbrev Called : Type 0
Called = Label × Replayed

each_append : {A : Type 0} (P : A → Type 0) (xs ys : List A) → Each P xs → Each P ys → Each P (xs ++ ys)
each_append P [] ys p q = q
each_append P (x ∷ xs) ys p q = (p.0, each_append P xs ys p.1 q)

each_front : {A : Type 0} (P : A → Type 0) (xs ys : List A) → Each P (xs ++ ys) → Each P xs
each_front P [] ys p = tt
each_front P (x ∷ xs) ys p = (p.0, each_front P xs ys p.1)

each_back : {A : Type 0} (P : A → Type 0) (xs ys : List A) → Each P (xs ++ ys) → Each P ys
each_back P [] ys p = p
each_back P (x ∷ xs) ys p = each_back P xs ys p.1

-- what calls give, in a run and in another beside it
module _ (f g : Call) where
  -- some call gives this tree under this label
  abbrev pub IsMade : Called → Type 0
  IsMade c = (n : ℕ) × (name : List ℕ) × (inputs : Values) × (m : ℕ) × (f c.0 n name inputs ≡ Gave c.1 m)

  -- where a call gives this tree under this label, it does beside
  abbrev pub Follows : Called → Type 0
  Follows c = (n m : ℕ) (name : List ℕ) (inputs : Values) → f c.0 n name inputs ≡ Gave c.1 m → g c.0 n name inputs ≡ Gave c.1 m

  -- The run adds calls that were made to its progress, and what goes beside it goes as it does where it has the same of each.
  pub record Adds (e d : Progress) (x y : Flow) : Type 0 where
    pub more : List Called
    pub calls : d.calls ≡ e.calls ++ more
    pub made : Each IsMade more
    pub same : Each Follows more → y ≡ x

  abbrev pub Beside : Progress → Flow → Flow → Type 0
  Beside e (Goes m d) y = Adds e d (Goes m d) y
  Beside e (Ends s m d) y = Adds e d (Ends s m d) y
  Beside e NoFuel y = Unit {0}
  Beside e (Lacks q) y = Unit {0}
  Beside e Off y = Unit {0}

  none : (e d : Progress) (x : Flow) → d.calls ≡ e.calls → Adds e d x x
  none e d x same = record { more = []; calls = same ∙ sym (append-nil e.calls); made = tt; same = λ all. refl }

  joined : (e d b : Progress) (m : ℕ) (x y : Flow) (h : ℕ → Progress → Flow) → Adds e d (Goes m d) y → Adds d b x (h m d) → Adds e b x (y >-> h)
  joined e d b m x y h p q = record {
    more = p.more ++ q.more;
    calls = q.calls ∙ ap (λ cs. cs ++ q.more) p.calls ∙ append_assoc e.calls p.more q.more;
    made = each_append IsMade p.more q.more p.made q.made;
    same = λ all. ap (λ z. z >-> h) (p.same (each_front Follows p.more q.more all)) ∙ q.same (each_back Follows p.more q.more all);
  }

  behind : (e d : Progress) (m : ℕ) (x y : Flow) (h : ℕ → Progress → Flow) → Adds e d (Goes m d) y → Beside d x (h m d) → Beside e x (y >-> h)
  behind e d m (Goes k b) y h p q = joined e d b m (Goes k b) y h p q
  behind e d m (Ends s k b) y h p q = joined e d b m (Ends s k b) y h p q
  behind e d m NoFuel y h p q = tt
  behind e d m (Lacks r) y h p q = tt
  behind e d m Off y h p q = tt

  follow_beside : (e : Progress) (x y : Flow) (h h' : ℕ → Progress → Flow) → Beside e x y → ((m : ℕ) (d : Progress) → Beside d (h m d) (h' m d)) → Beside e (x >-> h) (y >-> h')
  follow_beside e (Goes m d) y h h' p q = behind e d m (h m d) y h' p (q m d)
  follow_beside e (Ends s m d) y h h' p q = record { more = p.more; calls = p.calls; made = p.made; same = λ all. ap (λ z. z >-> h') (p.same all) }
  follow_beside e NoFuel y h h' p q = tt
  follow_beside e (Lacks r) y h h' p q = tt
  follow_beside e Off y h h' p q = tt

  spend_beside : (e : Progress) (n : ℕ) (h h' : ℕ → Flow) → ((m : ℕ) → Beside e (h m) (h' m)) → Beside e (spend n h) (spend n h')
  spend_beside e zero h h' q = tt
  spend_beside e (suc n) h h' q = q n

  -- one call, and what comes behind it
  module _ (l : Label) (n : ℕ) (name : List ℕ) (inputs : Values) (e : Progress) where
    added : (t : Replayed) (m : ℕ) (d b : Progress) (x : Flow) (h : Replayed → ℕ → Flow) → f l n name inputs ≡ Gave t m → d.calls ≡ e.calls ++ (l, t) ∷ [] → Adds d b x (h t m)
        → Adds e b x (taken (g l n name inputs) h)
    added t m d b x h is calls q = record {
      more = (l, t) ∷ q.more;
      calls = q.calls ∙ ap (λ cs. cs ++ q.more) calls ∙ append_assoc e.calls ((l, t) ∷ []) q.more;
      made = ((n, name, inputs, m, is), q.made);
      same = λ all. ap (λ z. taken z h) (all.0 n m name inputs is) ∙ q.same all.1;
    }

    with_one : (t : Replayed) (m : ℕ) (d : Progress) (x : Flow) (h : Replayed → ℕ → Flow) → f l n name inputs ≡ Gave t m → d.calls ≡ e.calls ++ (l, t) ∷ [] → Beside d x (h t m)
        → Beside e x (taken (g l n name inputs) h)
    with_one t m d (Goes k b) h is calls q = added t m d b (Goes k b) h is calls q
    with_one t m d (Ends s k b) h is calls q = added t m d b (Ends s k b) h is calls q
    with_one t m d NoFuel h is calls q = tt
    with_one t m d (Lacks r) h is calls q = tt
    with_one t m d Off h is calls q = tt

    taken_beside : (d : Replayed → Progress) → ((t : Replayed) → (d t).calls ≡ e.calls ++ (l, t) ∷ []) → (h h' : Replayed → ℕ → Flow)
        → ((t : Replayed) (m : ℕ) → Beside (d t) (h t m) (h' t m)) → (x : Answer) → f l n name inputs ≡ x → Beside e (taken x h) (taken (g l n name inputs) h')
    taken_beside d calls h h' q (Gave t m) is = with_one t m (d t) (h t m) h' is (calls t) (q t m)
    taken_beside d calls h h' q TooLittle is = tt
    taken_beside d calls h h' q (Without r) is = tt
    taken_beside d calls h h' q Astray is = tt

  test_beside : (o : Outcome Bool) (n : ℕ) (e : Progress) (x y x' y' : Flow) → Beside e x x' → Beside e y y' → Beside e (test o n e x y) (test o n e x' y')
  test_beside (Faults r) n e x y x' y' p q = none e e _ refl
  test_beside (Gives true) n e x y x' y' p q = p
  test_beside (Gives false) n e x y x' y' p q = q

-- ---- two surroundings that differ in what calls give

pub record DifferInCalls (a b : Around) : Type 0 where
  pub same : b ≡ record { call = b.call; deep = a.deep; takes = a.takes; kinds = a.kinds; stop = a.stop }

abbrev pub Adding : Act → Type 0
Adding x = (a b : Around) → DifferInCalls a b → (n : ℕ) (e : Progress) → Beside a.call b.call e (x a n e) (x b n e)

take_adding : (ps : List Planned) → Adding (take_calls ps)
take_adding [] a b c n e = none a.call b.call e e (Goes n e) refl
take_adding (p ∷ ps) a b c n e = spend_beside a.call b.call e n _ _
    (λ m. taken_beside a.call b.call (next_label p e) m p.callee p.inputs e (λ t. with_call p (next_label p e) t e) (λ t. refl) _ _
    (λ t l. take_adding ps a b c l (with_call p (next_label p e) t e)) (a.call (next_label p e) m p.callee p.inputs) refl)

stop_adding : (s : Bool) (a b : Around) (n : ℕ) (e : Progress) → Beside a.call b.call e (if s then Ends Killed n e else Goes n e) (if s then Ends Killed n e else Goes n e)
stop_adding true a b n e = none a.call b.call e e (Ends Killed n e) refl
stop_adding false a b n e = none a.call b.call e e (Goes n e) refl

stops_alike : Adding stopped
stops_alike a b c n e = subst (λ (s : Option ℕ). Beside a.call b.call e (stopped a n e) (if is_stop s (length e.calls) then Ends Killed n e else Goes n e)) (sym (ap (λ (x : Around). x.stop) c.same))
    (stop_adding (is_stop a.stop (length e.calls)) a b n e)

make_adding : (ps : List Planned) → Adding (make_calls ps)
make_adding [] a b c n e = none a.call b.call e e (Goes n e) refl
make_adding (p ∷ ps) a b c n e =
    follow_beside a.call b.call e (take_calls (p ∷ ps) a n e) (take_calls (p ∷ ps) b n e) (stopped a) (stopped b) (take_adding (p ∷ ps) a b c n e) (stops_alike a b c)

-- what is told of a progress holds of one with the same calls
from_like : (f g : Call) (e d : Progress) (x y : Flow) → d.calls ≡ e.calls → Beside f g d x y → Beside f g e x y
from_like f g e d (Goes m b) y same p = record { more = p.more; calls = p.calls ∙ ap (λ cs. cs ++ p.more) same; made = p.made; same = p.same }
from_like f g e d (Ends s m b) y same p = record { more = p.more; calls = p.calls ∙ ap (λ cs. cs ++ p.more) same; made = p.made; same = p.same }
from_like f g e d NoFuel y same p = tt
from_like f g e d (Lacks r) y same p = tt
from_like f g e d Off y same p = tt

after_adding : (s : Stepped) → Adding (after s)
after_adding (Stops s env outs) a b c n e = none a.call b.call e _ (Ends s n (record { env = env; outputs = outs; calls = e.calls })) refl
after_adding (Makes ps env outs) a b c n e =
    let d : Progress = record { env = env; outputs = outs; calls = e.calls } in
    from_like a.call b.call e d (make_calls ps a n d) (make_calls ps b n d) refl (make_adding ps a b c n d)

step_adding : (ss : List Stmt) → Adding (step_of ss)
step_adding ss a b c n e = subst (λ (x : Around). Beside a.call b.call e (step_of ss a n e) (after (statements x.deep x.takes x.kinds ss [] e.env e.outputs) b n e)) (sym c.same)
    (after_adding (statements a.deep a.takes a.kinds ss [] e.env e.outputs) a b c n e)

all_adding : (is : List Instr) → AllOf (λ i. Adding (exec i)) is → Adding (run is)
all_adding [] t a b c n e = none a.call b.call e e (Goes n e) refl
all_adding (i ∷ is) t a b c n e = follow_beside a.call b.call e (exec i a n e) (exec i b n e) (run is a) (run is b) (t.0 a b c n e) (λ m d. all_adding is t.1 a b c m d)

turns_adding : (most : ℕ) (x : Expr) (body : Act) → Adding body → Adding (turns most x body)
turns_adding zero x body t a b c n e = test_beside a.call b.call (holds x e.env) n e NoFuel (Goes n e) NoFuel (Goes n e) tt (none a.call b.call e e (Goes n e) refl)
turns_adding (suc most) x body t a b c n e = test_beside a.call b.call (holds x e.env) n e _ (Goes n e) _ (Goes n e)
    (spend_beside a.call b.call e n _ _ (λ m. follow_beside a.call b.call e (body a m e) (body b m e) _ _ (t a b c m e) (λ k d. turns_adding most x body t a b c k d)))
    (none a.call b.call e e (Goes n e) refl)

value_picked : (o : Outcome (List Instr)) (a b : Around) (n : ℕ) (e : Progress) → Picks (λ js. Adding (run js)) o → DifferInCalls a b
    → Beside a.call b.call e (by_value (mapped run o) n e (λ x. x a n e)) (by_value (mapped run o) n e (λ x. x b n e))
value_picked (Gives js) a b n e t c = t a b c n e
value_picked (Faults r) a b n e t c = none a.call b.call e e _ refl

blocks_adding : (arms : List Arm) → AllOf (λ x. Adding (run_block (arm_block x))) arms → AllOf (λ x. Adding (run (instrs (arm_block x)))) arms
blocks_adding [] t = tt
blocks_adding (x ∷ xs) t = (subst Adding (block_is (arm_block x)) t.0, blocks_adding xs t.1)

else_adding : (other : Option Block) → OptionOf (λ b. Adding (run_block b)) other → Adding (run (else_list other))
else_adding None t = all_adding [] tt
else_adding (Some b) t = subst Adding (block_is b) t

opened_adding : (y : Instr-F Instr Arm Block) → Inside (λ b. Adding (run_block b)) y → Adding (opened y)
opened_adding (Instr-F.Step s) t a b c n e = step_adding s.stmts a b c n e
opened_adding (Instr-F.If at arms other) t a b c n e =
    subst (λ (o : Outcome Act). Beside a.call b.call e (by_value o n e (λ x. x a n e)) (by_value o n e (λ x. x b n e))) (sym (picked_lists arms other e.env))
    (value_picked (picked (map arm_list arms) (else_list other) e.env) a b n e
    (picks (λ js. Adding (run js)) arms other e.env (blocks_adding arms t.0) (else_adding other t.1)) c)
opened_adding (Instr-F.While at x k) t a b c n e = turns_adding n x (run_block k) t a b c n e
opened_adding (Instr-F.Return at code) t a b c n e = none a.call b.call e e _ refl

exec_adding : (i : Instr) → Inside (λ b. Adding (run_block b)) (out-Instr i) → Adding (exec i)
exec_adding i t = subst Adding (sym (exec_is i)) (opened_adding (out-Instr i) t)

many_adding : (b : Block) → AllOf (λ i. Adding (exec i)) (instrs b) → Adding (run_block b)
many_adding b t = subst Adding (sym (block_is b)) (all_adding (instrs b) t)

pub run_adding : (is : List Instr) → Adding (run is)
run_adding is = all_adding is (every_list (λ i. Adding (exec i)) (λ b. Adding (run_block b)) exec_adding many_adding is)

-- ---- what was asked

abbrev pub IsThere : Table → Path × Request → Type 0
IsThere table a = (r : JobResult) × (table a.0 a.1 ≡ Some r)

abbrev pub IsAlike : Table → Table → Path × Request → Type 0
IsAlike table other a = other a.0 a.1 ≡ table a.0 a.1

-- each of these is there, and where the other table has the same of them, the other answer is this one
abbrev pub Told : Table → Table → Answer → Answer → Type 0
Told table other (Gave t m) y = Each (IsThere table) t.asked × (Each (IsAlike table other) t.asked → y ≡ Gave t m)
Told table other TooLittle y = Unit {0}
Told table other (Without q) y = Unit {0}
Told table other Astray y = Unit {0}

module _ (P : Path × Request → Type 0) (l : Label) where
  each_up : (xs : List (Path × Request)) → Each (λ a. P (l ∷ a.0, a.1)) xs → Each P (map (from_caller l) xs)
  each_up [] p = tt
  each_up (x ∷ xs) p = (p.0, each_up xs p.1)

  each_down : (xs : List (Path × Request)) → Each P (map (from_caller l) xs) → Each (λ a. P (l ∷ a.0, a.1)) xs
  each_down [] p = tt
  each_down (x ∷ xs) p = (p.0, each_down xs p.1)

module _ (table other : Table) (f g : Call)
    (there : (c : Called) → IsMade f g c → Each (IsThere (under c.0 table)) c.1.asked)
    (follows : (c : Called) → Each (IsAlike (under c.0 table) (under c.0 other)) c.1.asked → Follows f g c) where
  all_there : (cs : List Called) → Each (IsMade f g) cs → Each (IsThere table) (flat_map its_asked cs)
  all_there [] p = tt
  all_there (c ∷ cs) p =
      each_append (IsThere table) (its_asked c) (flat_map its_asked cs) (each_up (IsThere table) c.0 c.1.asked (there c p.0)) (all_there cs p.1)

  all_follow : (cs : List Called) → Each (IsAlike table other) (flat_map its_asked cs) → Each (Follows f g) cs
  all_follow [] p = tt
  all_follow (c ∷ cs) p = (
    follows c (each_down (IsAlike table other) c.0 c.1.asked (each_front (IsAlike table other) (its_asked c) (flat_map its_asked cs) p)),
    all_follow cs (each_back (IsAlike table other) (its_asked c) (flat_map its_asked cs) p),
  )

  unless_astray : (b : Bool) (t : Replayed) (m : ℕ) (y : Answer) → Each (IsThere table) t.asked → (Each (IsAlike table other) t.asked → y ≡ (if b then Astray else Gave t m))
      → Told table other (if b then Astray else Gave t m) y
  unless_astray true t m y p q = tt
  unless_astray false t m y p q = (p, q)

  end_told : (stop : Option ℕ) (name : List ℕ) (s : ProcessState) (m : ℕ) (e d : Progress) (x y : Flow) (z : Answer) → e.calls ≡ [] → Adds f g e d x y
      → (y ≡ x → z ≡ (if strays stop s then Astray else Gave (chain_tree name s d) m)) → Told table other (if strays stop s then Astray else Gave (chain_tree name s d) m) z
  end_told stop name s m e d x y z begins p same =
      let calls : d.calls ≡ p.more = p.calls ∙ ap (λ cs. cs ++ p.more) begins in
      unless_astray (strays stop s) (chain_tree name s d) m z
      (subst (λ (cs : List Called). Each (IsThere table) (flat_map its_asked cs)) (sym calls) (all_there p.more p.made))
      (λ all. same (p.same (all_follow p.more (subst (λ (cs : List Called). Each (IsAlike table other) (flat_map its_asked cs)) calls all))))

  ended_told : (stop : Option ℕ) (name : List ℕ) (ports : List Port) (e : Progress) (x y : Flow) → e.calls ≡ [] → Beside f g e x y
      → Told table other (ended stop name ports x) (ended stop name ports y)
  ended_told stop name ports e (Goes m d) y begins p =
      end_told stop name (judged ports (Finished 0) d.outputs) m e d (Goes m d) y (ended stop name ports y) begins p (λ h. ap (ended stop name ports) h)
  ended_told stop name ports e (Ends s m d) y begins p =
      end_told stop name (judged ports s d.outputs) m e d (Ends s m d) y (ended stop name ports y) begins p (λ h. ap (ended stop name ports) h)
  ended_told stop name ports e NoFuel y begins p = tt
  ended_told stop name ports e (Lacks q) y begins p = tt
  ended_told stop name ports e Off y begins p = tt

  -- ---- a definition

  module _ (a b : Around) (c : DifferInCalls a b) (is_f : a.call ≡ f) (is_g : b.call ≡ g) where
    chain_told : (stop : Option ℕ) (name : List ℕ) (k : Chain) (n : ℕ) (inputs : Values) → Told table other (chain stop name k a n inputs) (chain stop name k b n inputs)
    chain_told stop name k n inputs =
        let ran = run_adding (instrs k.outline) (within k.head.outputs stop a) (within k.head.outputs stop b) (record { same = ap (within k.head.outputs stop) c.same }) n (first inputs) in
        ended_told stop name k.head.outputs (first inputs) _ _ refl
        (subst (λ (h : Call). Beside h g (first inputs) (run (instrs k.outline) (within k.head.outputs stop a) n (first inputs)) (run (instrs k.outline) (within k.head.outputs stop b) n (first inputs))) is_f
        (subst (λ (h : Call). Beside a.call h (first inputs) (run (instrs k.outline) (within k.head.outputs stop a) n (first inputs)) (run (instrs k.outline) (within k.head.outputs stop b) n (first inputs))) is_g ran))

    result_told : (name : List ℕ) (parse : JobResult → Parsed) (q : Request) (n : ℕ) (r : Option JobResult) → table [] q ≡ r
        → Told table other (by_result name parse q r n) (by_result name parse q (other [] q) n)
    result_told name parse q n None is = tt
    result_told name parse q n (Some r) is = (((r, is), tt), λ all. ap (λ z. by_result name parse q z n) (all.0 ∙ is))

    job_told : (name : List ℕ) (o : Outcome Request) (parse : JobResult → Parsed) (n : ℕ) → Told table other (job name o parse (table []) n) (job name o parse (other []) n)
    job_told name (Faults r) parse n = (tt, λ all. refl)
    job_told name (Gives q) parse n = result_told name parse q n (table [] q) refl

    whole_told : (d : Option Definition) (n : ℕ) (name : List ℕ) (inputs : Values) → Told table other (whole d a (table []) n name inputs) (whole d b (other []) n name inputs)
    whole_told None n name inputs = tt
    whole_told (Some (definition.Function d)) n name inputs = (tt, λ all. refl)
    whole_told (Some (definition.Job j)) n name inputs = job_told name (request j inputs) (parsed j inputs) n
    whole_told (Some (definition.Chain k)) n name inputs = chain_told None name k n inputs

    cut_told : (s : ℕ) (d : Option Definition) (n : ℕ) (name : List ℕ) (inputs : Values) → Told table other (cut s d a n name inputs) (cut s d b n name inputs)
    cut_told zero d n name inputs = (tt, λ all. refl)
    cut_told (suc s) None n name inputs = tt
    cut_told (suc s) (Some (definition.Function d)) n name inputs = tt
    cut_told (suc s) (Some (definition.Job j)) n name inputs = tt
    cut_told (suc s) (Some (definition.Chain k)) n name inputs = chain_told (Some (suc s)) name k n inputs

    kill_told : (s : Option ℕ) (d : Option Definition) (n : ℕ) (name : List ℕ) (inputs : Values)
        → Told table other (by_kill s d a (table []) n name inputs) (by_kill s d b (other []) n name inputs)
    kill_told None d n name inputs = whole_told d n name inputs
    kill_told (Some s) d n name inputs = cut_told s d n name inputs

-- nothing is called at the deepest level
abbrev no_call : Call
no_call l n name inputs = Astray

pub given_there : (table other : Table) (t : Replayed) (m : ℕ) (x y : Answer) → x ≡ Gave t m → Told table other x y → Each (IsThere table) t.asked
given_there table other t m x y is told = (subst (λ (z : Answer). Told table other z y) is told).0

pub given_same : (table other : Table) (t : Replayed) (m : ℕ) (x y : Answer) → x ≡ Gave t m → Told table other x y → Each (IsAlike table other) t.asked → y ≡ Gave t m
given_same table other t m x y is told = (subst (λ (z : Answer). Told table other z y) is told).1

-- what the calls of a process give that is so many levels above the deepest ones
abbrev call_at : ℕ → List Definition → Table → Kills → Call
call_at levels library table kills l = meaning levels library (under l table) (under l kills)

pub meaning_told : (levels : ℕ) (library : List Definition) (table other : Table) (kills : Kills) (n : ℕ) (name : List ℕ) (inputs : Values)
    → Told table other (meaning levels library table kills n name inputs) (meaning levels library other kills n name inputs)
meaning_told zero library table other kills n name inputs =
    kill_told table other no_call no_call (λ c made. let e = made.4 in absurd (cc)) (λ c all n m name inputs e. absurd (cc))
    (surrounding library None) (surrounding library None) (record { same = refl }) refl refl (kills []) (definition_named name library) n name inputs
meaning_told (suc levels) library table other kills n name inputs =
    kill_told table other (call_at levels library table kills) (call_at levels library other kills)
    (λ c made.
    given_there (under c.0 table) (under c.0 other) c.1 made.3 (call_at levels library table kills c.0 made.0 made.1 made.2) (call_at levels library other kills c.0 made.0 made.1 made.2) made.4
    (meaning_told levels library (under c.0 table) (under c.0 other) (under c.0 kills) made.0 made.1 made.2))
    (λ c all n m name inputs e.
    given_same (under c.0 table) (under c.0 other) c.1 m (call_at levels library table kills c.0 n name inputs) (call_at levels library other kills c.0 n name inputs) e
    (meaning_told levels library (under c.0 table) (under c.0 other) (under c.0 kills) n name inputs) all)
    (surrounding library (Some (call_at levels library table kills))) (surrounding library (Some (call_at levels library other kills))) (record { same = refl }) refl refl (kills [])
    (definition_named name library) n name inputs
