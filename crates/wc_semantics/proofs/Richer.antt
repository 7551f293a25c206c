-- A table that has each result of another gives each tree that the other gives.
use Rattle.std.proofs.Common.{◌≡◌, ℕ, zero, suc, Bool, true, false, List, [], ◌∷◌, Option, Some, None, map, refl, sym, ap, subst}
use Rattle.std.specs.Prelude.{if◌then◌else◌, length}
use Rattle.wc_value.specs.declared.process.JobResult.{JobResult}
use Rattle.wc_value.specs.declared.process.ProcessState.TheVariants.{Killed}
use Rattle.wc_value.specs.declared.process.Request.{Request}
use Rattle.wc_syntax.specs.Findings.{definition_named}
use Rattle.wc_syntax.specs.declared.definition.Chain.{Chain}
use Rattle.wc_syntax.specs.declared.definition.Definition.{Definition}
use Rattle.wc_syntax.specs.declared.definition.Definition.TheVariants as definition
use Rattle.wc_syntax.specs.declared.definition.Port.{Port}
use Rattle.wc_syntax.specs.declared.expression.Expr.{Expr}
use Rattle.wc_syntax.specs.declared.outline.Instr.{Instr, out-Instr}
use Rattle.wc_syntax.specs.declared.outline.Instr.TheOpen.{Instr-F}
use Rattle.wc_syntax.specs.declared.outline.Arm.{Arm}
use Rattle.wc_syntax.specs.declared.outline.Block.{Block}
use Rattle.wc_syntax.specs.declared.outline.Stmt.{Stmt}
use Rattle.wc_expression.specs.declared.outcome.Outcome.{Outcome}
use Rattle.wc_expression.specs.declared.outcome.Outcome.TheVariants.{Gives, Faults}
use Rattle.wc_expression.specs.Outcomes.{mapped}
use Rattle.wc_expression.specs.Val.{holds}
use Rattle.wc_semantics.specs.declared.outcomes.Parsed.{Parsed}
use Rattle.wc_semantics.specs.Rules.{Values}
use Rattle.wc_semantics.specs.Requests.{request}
use Rattle.wc_semantics.specs.Outcomes.{parsed}
use Rattle.wc_semantics.specs.declared.progress.Answer.{Answer}
use Rattle.wc_semantics.specs.declared.progress.Answer.TheVariants.{Gave, TooLittle, Without, Astray}
use Rattle.wc_semantics.specs.declared.progress.Flow.{Flow}
use Rattle.wc_semantics.specs.declared.progress.Flow.TheVariants.{Goes, Ends, NoFuel, Lacks, Off}
use Rattle.wc_semantics.specs.declared.progress.Planned.{Planned}
use Rattle.wc_semantics.specs.declared.progress.Progress.{Progress}
use Rattle.wc_semantics.specs.declared.progress.Replayed.{Replayed}
use Rattle.wc_semantics.specs.declared.progress.Stepped.{Stepped}
use Rattle.wc_semantics.specs.declared.progress.Stepped.TheVariants.{Stops, Makes}
use Rattle.wc_semantics.specs.Tables.{Label, Table, Kills, under}
use Rattle.wc_semantics.specs.Statements.{statements}
use Rattle.wc_semantics.specs.Run.{Around, Act, ◌>->◌, spend, taken, by_value, next_label, with_call, take_calls, is_stop, stopped, make_calls, after, step_of, test, picked, turns, exec, run_block, run, instrs}
use Rattle.wc_semantics.specs.Meaning.{ended, first, within, chain, by_result, job, whole, cut, by_kill, surrounding, meaning}
use Rattle.wc_semantics.specs.Laws.{arm_block, arm_list, else_list, HasRows, SameUnlessLacking}
use Rattle.wc_semantics.proofs.Induction.{AllOf, OptionOf, Inside, every_list}
use Rattle.wc_semantics.proofs.Acts.{opened, exec_is, block_is, picked_lists}
use Rattle.wc_semantics.proofs.Frugal.{Picks, picks}

-- the second goes as the first does, unless that lacks a result
abbrev pub SameFlow : Flow → Flow → Type 0
SameFlow (Goes m e) g = g ≡ Goes m e
SameFlow (Ends s m e) g = g ≡ Ends s m e
SameFlow NoFuel g = g ≡ NoFuel
SameFlow (Lacks q) g = Unit {0}
SameFlow Off g = g ≡ Off

-- two surroundings that differ in what calls give, the second as the first unless that lacks a result
pub record IsRicher (a b : Around) : Type 0 where
  pub call : (l : Label) (n : ℕ) (name : List ℕ) (inputs : Values) → SameUnlessLacking (a.call l n name inputs) (b.call l n name inputs)
  pub same : b ≡ record { call = b.call; deep = a.deep; takes = a.takes; kinds = a.kinds; stop = a.stop }

abbrev pub Richer : Act → Type 0
Richer x = (a b : Around) → IsRicher a b → (n : ℕ) (e : Progress) → SameFlow (x a n e) (x b n e)

itself : (f : Flow) → SameFlow f f
itself (Goes n e) = refl
itself (Ends s n e) = refl
itself NoFuel = refl
itself (Lacks q) = tt
itself Off = refl

follow_same : (f g : Flow) (h h' : ℕ → Progress → Flow) → SameFlow f g → ((n : ℕ) (e : Progress) → SameFlow (h n e) (h' n e)) → SameFlow (f >-> h) (g >-> h')
follow_same (Goes m e) g h h' p q = subst (λ (z : Flow). SameFlow (h m e) (z >-> h')) (sym p) (q m e)
follow_same (Ends s m e) g h h' p q = ap (λ z. z >-> h') p
follow_same NoFuel g h h' p q = ap (λ z. z >-> h') p
follow_same (Lacks r) g h h' p q = tt
follow_same Off g h h' p q = ap (λ z. z >-> h') p

spend_same : (n : ℕ) (f f' : ℕ → Flow) → ((m : ℕ) → SameFlow (f m) (f' m)) → SameFlow (spend n f) (spend n f')
spend_same zero f f' q = refl
spend_same (suc n) f f' q = q n

taken_same : (x y : Answer) (f f' : Replayed → ℕ → Flow) → SameUnlessLacking x y → ((t : Replayed) (m : ℕ) → SameFlow (f t m) (f' t m)) → SameFlow (taken x f) (taken y f')
taken_same (Gave t m) y f f' p q = subst (λ (z : Answer). SameFlow (f t m) (taken z f')) (sym p) (q t m)
taken_same TooLittle y f f' p q = ap (λ z. taken z f') p
taken_same (Without r) y f f' p q = tt
taken_same Astray y f f' p q = ap (λ z. taken z f') p

test_same : (o : Outcome Bool) (n : ℕ) (e : Progress) (x y x' y' : Flow) → SameFlow x x' → SameFlow y y' → SameFlow (test o n e x y) (test o n e x' y')
test_same (Faults r) n e x y x' y' p q = refl
test_same (Gives true) n e x y x' y' p q = p
test_same (Gives false) n e x y x' y' p q = q

take_richer : (ps : List Planned) → Richer (take_calls ps)
take_richer [] a b c n e = refl
take_richer (p ∷ ps) a b c n e = spend_same n _ _
    (λ m. taken_same (a.call (next_label p e) m p.callee p.inputs) (b.call (next_label p e) m p.callee p.inputs) _ _ (c.call (next_label p e) m p.callee p.inputs)
    (λ t l. take_richer ps a b c l (with_call p (next_label p e) t e)))

stops_alike : (a b : Around) → IsRicher a b → (n : ℕ) (e : Progress) → SameFlow (stopped a n e) (stopped b n e)
stops_alike a b c n e = subst (λ (s : Option ℕ). SameFlow (stopped a n e) (if is_stop s (length e.calls) then Ends Killed n e else Goes n e)) (sym (ap (λ (x : Around). x.stop) c.same)) (itself (stopped a n e))

make_richer : (ps : List Planned) → Richer (make_calls ps)
make_richer [] a b c n e = refl
make_richer (p ∷ ps) a b c n e = follow_same (take_calls (p ∷ ps) a n e) (take_calls (p ∷ ps) b n e) (stopped a) (stopped b) (take_richer (p ∷ ps) a b c n e) (stops_alike a b c)

after_richer : (s : Stepped) → Richer (after s)
after_richer (Stops s env outs) a b c n e = refl
after_richer (Makes ps env outs) a b c n e = make_richer ps a b c n (record { env = env; outputs = outs; calls = e.calls })

step_richer : (ss : List Stmt) → Richer (step_of ss)
step_richer ss a b c n e = subst (λ (x : Around). SameFlow (step_of ss a n e) (after (statements x.deep x.takes x.kinds ss [] e.env e.outputs) b n e)) (sym c.same)
    (after_richer (statements a.deep a.takes a.kinds ss [] e.env e.outputs) a b c n e)

all_richer : (is : List Instr) → AllOf (λ i. Richer (exec i)) is → Richer (run is)
all_richer [] t a b c n e = refl
all_richer (i ∷ is) t a b c n e = follow_same (exec i a n e) (exec i b n e) (run is a) (run is b) (t.0 a b c n e) (λ m d. all_richer is t.1 a b c m d)

turns_richer : (most : ℕ) (x : Expr) (body : Act) → Richer body → Richer (turns most x body)
turns_richer zero x body t a b c n e = itself (test (holds x e.env) n e NoFuel (Goes n e))
turns_richer (suc most) x body t a b c n e = test_same (holds x e.env) n e _ (Goes n e) _ (Goes n e)
    (spend_same n _ _ (λ m. follow_same (body a m e) (body b m e) _ _ (t a b c m e) (λ k d. turns_richer most x body t a b c k d)))
    refl

value_picked : (o : Outcome (List Instr)) (a b : Around) (n : ℕ) (e : Progress) → Picks (λ js. Richer (run js)) o → IsRicher a b
    → SameFlow (by_value (mapped run o) n e (λ x. x a n e)) (by_value (mapped run o) n e (λ x. x b n e))
value_picked (Gives js) a b n e t c = t a b c n e
value_picked (Faults r) a b n e t c = refl

blocks_richer : (arms : List Arm) → AllOf (λ x. Richer (run_block (arm_block x))) arms → AllOf (λ x. Richer (run (instrs (arm_block x)))) arms
blocks_richer [] t = tt
blocks_richer (x ∷ xs) t = (subst Richer (block_is (arm_block x)) t.0, blocks_richer xs t.1)

else_richer : (other : Option Block) → OptionOf (λ b. Richer (run_block b)) other → Richer (run (else_list other))
else_richer None t = λ a b c n e. refl
else_richer (Some b) t = subst Richer (block_is b) t

opened_richer : (y : Instr-F Instr Arm Block) → Inside (λ b. Richer (run_block b)) y → Richer (opened y)
opened_richer (Instr-F.Step s) t a b c n e = step_richer s.stmts a b c n e
opened_richer (Instr-F.If at arms other) t a b c n e =
    subst (λ (o : Outcome Act). SameFlow (by_value o n e (λ x. x a n e)) (by_value o n e (λ x. x b n e))) (sym (picked_lists arms other e.env))
    (value_picked (picked (map arm_list arms) (else_list other) e.env) a b n e
    (picks (λ js. Richer (run js)) arms other e.env (blocks_richer arms t.0) (else_richer other t.1)) c)
opened_richer (Instr-F.While at x k) t a b c n e = turns_richer n x (run_block k) t a b c n e
opened_richer (Instr-F.Return at code) t a b c n e = refl

exec_richer : (i : Instr) → Inside (λ b. Richer (run_block b)) (out-Instr i) → Richer (exec i)
exec_richer i t = subst Richer (sym (exec_is i)) (opened_richer (out-Instr i) t)

many_richer : (b : Block) → AllOf (λ i. Richer (exec i)) (instrs b) → Richer (run_block b)
many_richer b t = subst Richer (sym (block_is b)) (all_richer (instrs b) t)

pub run_richer : (is : List Instr) → Richer (run is)
run_richer is = all_richer is (every_list (λ i. Richer (exec i)) (λ b. Richer (run_block b)) exec_richer many_richer is)

-- ---- the meaning of a definition

unless_itself : (x : Answer) → SameUnlessLacking x x
unless_itself (Gave t n) = refl
unless_itself TooLittle = refl
unless_itself (Without q) = tt
unless_itself Astray = refl

ended_richer : (stop : Option ℕ) (name : List ℕ) (ports : List Port) (f g : Flow) → SameFlow f g → SameUnlessLacking (ended stop name ports f) (ended stop name ports g)
ended_richer stop name ports (Goes m e) g p = subst (λ (z : Flow). SameUnlessLacking (ended stop name ports (Goes m e)) (ended stop name ports z)) (sym p) (unless_itself (ended stop name ports (Goes m e)))
ended_richer stop name ports (Ends s m e) g p = subst (λ (z : Flow). SameUnlessLacking (ended stop name ports (Ends s m e)) (ended stop name ports z)) (sym p) (unless_itself (ended stop name ports (Ends s m e)))
ended_richer stop name ports NoFuel g p = ap (ended stop name ports) p
ended_richer stop name ports (Lacks q) g p = tt
ended_richer stop name ports Off g p = ap (ended stop name ports) p

within_richer : (ports : List Port) (stop : Option ℕ) (a b : Around) → IsRicher a b → IsRicher (within ports stop a) (within ports stop b)
within_richer ports stop a b c = record { call = c.call; same = ap (within ports stop) c.same }

chain_richer : (stop : Option ℕ) (name : List ℕ) (k : Chain) (a b : Around) → IsRicher a b → (n : ℕ) (inputs : Values)
    → SameUnlessLacking (chain stop name k a n inputs) (chain stop name k b n inputs)
chain_richer stop name k a b c n inputs = ended_richer stop name k.head.outputs _ _
    (run_richer (instrs k.outline) (within k.head.outputs stop a) (within k.head.outputs stop b) (within_richer k.head.outputs stop a b c) n (first inputs))

Rows : (Request → Option JobResult) → (Request → Option JobResult) → Type 0
Rows f g = (q : Request) (r : JobResult) → f q ≡ Some r → g q ≡ Some r

result_richer : (name : List ℕ) (parse : JobResult → Parsed) (q : Request) (r s : Option JobResult) (n : ℕ) → ((j : JobResult) → r ≡ Some j → s ≡ Some j)
    → SameUnlessLacking (by_result name parse q r n) (by_result name parse q s n)
result_richer name parse q None s n h = tt
result_richer name parse q (Some j) s n h = ap (λ z. by_result name parse q z n) (h j refl)

job_richer : (name : List ℕ) (o : Outcome Request) (parse : JobResult → Parsed) (f g : Request → Option JobResult) (n : ℕ) → Rows f g
    → SameUnlessLacking (job name o parse f n) (job name o parse g n)
unfolding Rows
job_richer name (Faults r) parse f g n h = refl
job_richer name (Gives q) parse f g n h = result_richer name parse q (f q) (g q) n (h q)

whole_richer : (d : Option Definition) (a b : Around) (f g : Request → Option JobResult) → IsRicher a b → Rows f g → (n : ℕ) (name : List ℕ) (inputs : Values)
    → SameUnlessLacking (whole d a f n name inputs) (whole d b g n name inputs)
whole_richer None a b f g c h n name inputs = refl
whole_richer (Some (definition.Function d)) a b f g c h n name inputs = refl
whole_richer (Some (definition.Job j)) a b f g c h n name inputs = job_richer name (request j inputs) (parsed j inputs) f g n h
whole_richer (Some (definition.Chain k)) a b f g c h n name inputs = chain_richer None name k a b c n inputs

cut_richer : (s : ℕ) (d : Option Definition) (a b : Around) → IsRicher a b → (n : ℕ) (name : List ℕ) (inputs : Values)
    → SameUnlessLacking (cut s d a n name inputs) (cut s d b n name inputs)
cut_richer zero d a b c n name inputs = refl
cut_richer (suc s) None a b c n name inputs = refl
cut_richer (suc s) (Some (definition.Function d)) a b c n name inputs = refl
cut_richer (suc s) (Some (definition.Job j)) a b c n name inputs = refl
cut_richer (suc s) (Some (definition.Chain k)) a b c n name inputs = chain_richer (Some (suc s)) name k a b c n inputs

by_kill_richer : (s : Option ℕ) (d : Option Definition) (a b : Around) (f g : Request → Option JobResult) → IsRicher a b → Rows f g → (n : ℕ) (name : List ℕ) (inputs : Values)
    → SameUnlessLacking (by_kill s d a f n name inputs) (by_kill s d b g n name inputs)
by_kill_richer None d a b f g c h n name inputs = whole_richer d a b f g c h n name inputs
by_kill_richer (Some s) d a b f g c h n name inputs = cut_richer s d a b c n name inputs

pub meaning_richer : (levels : ℕ) (library : List Definition) (table richer : Table) (kills : Kills) → HasRows table richer → (n : ℕ) (name : List ℕ) (inputs : Values)
    → SameUnlessLacking (meaning levels library table kills n name inputs) (meaning levels library richer kills n name inputs)
unfolding Rows
meaning_richer zero library table richer kills h n name inputs =
    by_kill_richer (kills []) (definition_named name library) (surrounding library None) (surrounding library None) (table []) (richer [])
    (record { call = λ l m x y. refl; same = refl }) (h []) n name inputs
meaning_richer (suc levels) library table richer kills h n name inputs =
    by_kill_richer (kills []) (definition_named name library)
    (surrounding library (Some (λ l. meaning levels library (under l table) (under l kills))))
    (surrounding library (Some (λ l. meaning levels library (under l richer) (under l kills)))) (table []) (richer [])
    (record { call = λ l m x y. meaning_richer levels library (under l table) (under l richer) (under l kills) (λ path. h (l ∷ path)) m x y; same = refl }) (h []) n name inputs
