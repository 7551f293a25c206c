-- A run leaves no more fuel than it was given, if its calls don't.
use Rattle.std.proofs.Common.{ℕ, zero, suc, ◌≤◌, Bool, true, false, List, [], ◌∷◌, Option, Some, None, map, sym, subst, arith}
use Rattle.std.specs.Prelude.{if◌then◌else◌, length}
use Rattle.wc_value.specs.declared.process.ProcessState.TheVariants.{Killed}
use Rattle.wc_syntax.specs.declared.expression.Expr.{Expr}
use Rattle.wc_syntax.specs.declared.outline.Instr.{Instr, out-Instr}
use Rattle.wc_syntax.specs.declared.outline.Instr.TheOpen.{Instr-F}
use Rattle.wc_syntax.specs.declared.outline.Arm.{Arm}
use Rattle.wc_syntax.specs.declared.outline.Block.{Block}
use Rattle.wc_state.specs.declared.environment.Env.{Env}
use Rattle.wc_expression.specs.declared.outcome.Outcome.{Outcome}
use Rattle.wc_expression.specs.declared.outcome.Outcome.TheVariants.{Gives, Faults}
use Rattle.wc_expression.specs.Outcomes.{◌>>=◌, mapped}
use Rattle.wc_expression.specs.Val.{holds}
use Rattle.wc_semantics.specs.declared.progress.Answer.{Answer}
use Rattle.wc_semantics.specs.declared.progress.Answer.TheVariants.{Gave, TooLittle, Without, Astray}
use Rattle.wc_semantics.specs.declared.progress.Flow.{Flow}
use Rattle.wc_semantics.specs.declared.progress.Flow.TheVariants.{Goes, Ends, NoFuel, Lacks, Off}
use Rattle.wc_semantics.specs.declared.progress.Planned.{Planned}
use Rattle.wc_semantics.specs.declared.progress.Progress.{Progress}
use Rattle.wc_semantics.specs.declared.progress.Replayed.{Replayed}
use Rattle.wc_semantics.specs.declared.progress.Stepped.{Stepped}
use Rattle.wc_semantics.specs.declared.progress.Stepped.TheVariants.{Stops, Makes}
use Rattle.wc_semantics.specs.Statements.{statements}
use Rattle.wc_semantics.specs.Run.{Around, Act, ◌>->◌, spend, taken, by_value, next_label, with_call, take_calls, is_stop, stopped, make_calls, after, test, picked, turns, exec, run_block, run, instrs}
use Rattle.wc_semantics.specs.Laws.{arm_block, arm_list, else_list, Leaves, FrugalCall}
use Rattle.wc_semantics.proofs.Induction.{AllOf, OptionOf, Inside, every_block, every_list}
use Rattle.wc_semantics.proofs.Acts.{opened, exec_is, block_is, picked_lists}

abbrev pub Within : ℕ → Flow → Type 0
Within n (Goes m e) = m ≤ n
Within n (Ends s m e) = m ≤ n
Within n NoFuel = Unit {0}
Within n (Lacks q) = Unit {0}
Within n Off = Unit {0}

abbrev pub Frugal : Act → Type 0
Frugal x = (a : Around) → FrugalCall a.call → (n : ℕ) (e : Progress) → Within n (x a n e)

pub wider : (n m : ℕ) (f : Flow) → m ≤ n → Within m f → Within n f
wider n m (Goes k e) p q = omega arith
wider n m (Ends s k e) p q = omega arith
wider n m NoFuel p q = tt
wider n m (Lacks r) p q = tt
wider n m Off p q = tt

follow_within : (n : ℕ) (f : Flow) (g : ℕ → Progress → Flow) → Within n f → ((m : ℕ) (e : Progress) → m ≤ n → Within m (g m e)) → Within n (f >-> g)
follow_within n (Goes m e) g p q = wider n m (g m e) p (q m e p)
follow_within n (Ends s m e) g p q = p
follow_within n NoFuel g p q = tt
follow_within n (Lacks r) g p q = tt
follow_within n Off g p q = tt

spend_within : (n : ℕ) (f : ℕ → Flow) → ((m : ℕ) → Within m (f m)) → Within n (spend n f)
spend_within zero f p = tt
spend_within (suc n) f p = wider (suc n) n (f n) (omega arith) (p n)

taken_within : (n : ℕ) (x : Answer) (f : Replayed → ℕ → Flow) → Leaves n x → ((t : Replayed) (m : ℕ) → Within m (f t m)) → Within n (taken x f)
taken_within n (Gave t m) f p q = wider n m (f t m) p (q t m)
taken_within n TooLittle f p q = tt
taken_within n (Without r) f p q = tt
taken_within n Astray f p q = tt

value_within : {A : Type 0} (o : Outcome A) (n : ℕ) (e : Progress) (f : A → Flow) → ((v : A) → Within n (f v)) → Within n (by_value o n e f)
value_within (Gives v) n e f p = p v
value_within (Faults r) n e f p = omega arith

test_within : (o : Outcome Bool) (n : ℕ) (e : Progress) (f g : Flow) → Within n f → Within n g → Within n (test o n e f g)
test_within (Faults r) n e f g p q = omega arith
test_within (Gives true) n e f g p q = p
test_within (Gives false) n e f g p q = q

pub take_frugal : (ps : List Planned) → Frugal (take_calls ps)
take_frugal [] a c n e = omega arith
take_frugal (p ∷ ps) a c n e = spend_within n _ (λ m. taken_within m (a.call (next_label p e) m p.callee p.inputs) _ (c (next_label p e) m p.callee p.inputs)
    (λ t left. take_frugal ps a c left (with_call p (next_label p e) t e)))

stop_within : (b : Bool) (n : ℕ) (e : Progress) → Within n (if b then Ends Killed n e else Goes n e)
stop_within true n e = omega arith
stop_within false n e = omega arith

pub make_frugal : (ps : List Planned) → Frugal (make_calls ps)
make_frugal [] a c n e = omega arith
make_frugal (p ∷ ps) a c n e = follow_within n (take_calls (p ∷ ps) a n e) (stopped a) (take_frugal (p ∷ ps) a c n e)
    (λ m d h. stop_within (is_stop a.stop (length d.calls)) m d)

after_frugal : (s : Stepped) → Frugal (after s)
after_frugal (Stops s env outs) a c n e = omega arith
after_frugal (Makes ps env outs) a c n e = make_frugal ps a c n (record { env = env; outputs = outs; calls = e.calls })

all_frugal : (is : List Instr) → AllOf (λ i. Frugal (exec i)) is → Frugal (run is)
all_frugal [] t a c n e = omega arith
all_frugal (i ∷ is) t a c n e = follow_within n (exec i a n e) (run is a) (t.0 a c n e) (λ m d h. all_frugal is t.1 a c m d)

turns_frugal : (most : ℕ) (x : Expr) (body : Act) → Frugal body → Frugal (turns most x body)
turns_frugal zero x body t a c n e = test_within (holds x e.env) n e NoFuel (Goes n e) tt (omega arith)
turns_frugal (suc most) x body t a c n e = test_within (holds x e.env) n e _ (Goes n e)
    (spend_within n _ (λ m. follow_within m (body a m e) (turns most x body a) (t a c m e) (λ k d h. turns_frugal most x body t a c k d)))
    (omega arith)

-- each list that may be picked
abbrev pub Picks : (List Instr → Type 0) → Outcome (List Instr) → Type 0
Picks P (Gives js) = P js
Picks P (Faults r) = Unit {0}

pick_one : (P : List Instr → Type 0) (o : Outcome Bool) (js : List Instr) (r : Outcome (List Instr)) → P js → Picks P r
    → Picks P (o >>= (λ b. if b then Gives js else r))
pick_one P (Faults q) js r p t = tt
pick_one P (Gives true) js r p t = p
pick_one P (Gives false) js r p t = t

pub picks : (P : List Instr → Type 0) (arms : List Arm) (other : Option Block) (e : Env) → AllOf (λ x. P (instrs (arm_block x))) arms → P (else_list other)
    → Picks P (picked (map arm_list arms) (else_list other) e)
picks P [] other e t u = u
picks P (x ∷ xs) other e t u = pick_one P (holds (arm_list x).0 e) (instrs (arm_block x)) _ t.0 (picks P xs other e t.1 u)

value_picked : (P : List Instr → Type 0) (o : Outcome (List Instr)) (a : Around) (n : ℕ) (e : Progress) → Picks P o → ((js : List Instr) → P js → Within n (run js a n e))
    → Within n (by_value (mapped run o) n e (λ x. x a n e))
value_picked P (Gives js) a n e t p = p js t
value_picked P (Faults r) a n e t p = omega arith

blocks_frugal : (arms : List Arm) → AllOf (λ x. Frugal (run_block (arm_block x))) arms → AllOf (λ x. Frugal (run (instrs (arm_block x)))) arms
blocks_frugal [] t = tt
blocks_frugal (x ∷ xs) t = (subst Frugal (block_is (arm_block x)) t.0, blocks_frugal xs t.1)

else_frugal : (other : Option Block) → OptionOf (λ b. Frugal (run_block b)) other → Frugal (run (else_list other))
else_frugal None t = λ a c n e. omega arith
else_frugal (Some b) t = subst Frugal (block_is b) t

opened_frugal : (y : Instr-F Instr Arm Block) → Inside (λ b. Frugal (run_block b)) y → Frugal (opened y)
opened_frugal (Instr-F.Step s) t a c n e = after_frugal (statements a.deep a.takes a.kinds s.stmts [] e.env e.outputs) a c n e
opened_frugal (Instr-F.If at arms other) t a c n e =
    subst (λ (o : Outcome Act). Within n (by_value o n e (λ x. x a n e))) (sym (picked_lists arms other e.env))
    (value_picked (λ js. Frugal (run js)) (picked (map arm_list arms) (else_list other) e.env) a n e
    (picks (λ js. Frugal (run js)) arms other e.env (blocks_frugal arms t.0) (else_frugal other t.1)) (λ js p. p a c n e))
opened_frugal (Instr-F.While at x b) t a c n e = turns_frugal n x (run_block b) t a c n e
opened_frugal (Instr-F.Return at code) t a c n e = omega arith

exec_frugal : (i : Instr) → Inside (λ b. Frugal (run_block b)) (out-Instr i) → Frugal (exec i)
exec_frugal i t = subst Frugal (sym (exec_is i)) (opened_frugal (out-Instr i) t)

many_frugal : (b : Block) → AllOf (λ i. Frugal (exec i)) (instrs b) → Frugal (run_block b)
many_frugal b t = subst Frugal (sym (block_is b)) (all_frugal (instrs b) t)

pub block_frugal : (b : Block) → Frugal (run_block b)
block_frugal = every_block (λ i. Frugal (exec i)) (λ b. Frugal (run_block b)) exec_frugal many_frugal

pub run_frugal : (is : List Instr) → Frugal (run is)
run_frugal is = all_frugal is (every_list (λ i. Frugal (exec i)) (λ b. Frugal (run_block b)) exec_frugal many_frugal is)
