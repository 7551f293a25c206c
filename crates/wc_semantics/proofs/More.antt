-- More fuel keeps an end, and leaves as much more.
use Rattle.std.proofs.Common.{◌≡◌, ℕ, zero, suc, ◌+◌, ◌≤◌, Bool, true, false, List, [], ◌∷◌, Option, Some, None, map, refl, sym, ap, subst, arith}
use Rattle.std.specs.Prelude.{if◌then◌else◌, length}
use Rattle.wc_value.specs.declared.process.ProcessState.{ProcessState}
use Rattle.wc_value.specs.declared.process.ProcessState.TheVariants.{Finished, Excepted, Killed}
use Rattle.wc_syntax.specs.declared.expression.Expr.{Expr}
use Rattle.wc_syntax.specs.declared.outline.Instr.{Instr, out-Instr}
use Rattle.wc_syntax.specs.declared.outline.Instr.TheOpen.{Instr-F}
use Rattle.wc_syntax.specs.declared.outline.Arm.{Arm}
use Rattle.wc_syntax.specs.declared.outline.Block.{Block}
use Rattle.wc_expression.specs.declared.outcome.Outcome.{Outcome}
use Rattle.wc_expression.specs.declared.outcome.Outcome.TheVariants.{Gives, Faults}
use Rattle.wc_expression.specs.Outcomes.{mapped}
use Rattle.wc_expression.specs.Val.{holds}
use Rattle.wc_semantics.specs.Rules.{Values}
use Rattle.wc_semantics.specs.declared.progress.Answer.{Answer}
use Rattle.wc_semantics.specs.declared.progress.Answer.TheVariants.{Gave, TooLittle, Without, Astray}
use Rattle.wc_semantics.specs.declared.progress.Flow.{Flow}
use Rattle.wc_semantics.specs.declared.progress.Flow.TheVariants.{Goes, Ends, NoFuel, Lacks, Off}
use Rattle.wc_semantics.specs.declared.progress.Planned.{Planned}
use Rattle.wc_semantics.specs.declared.progress.Progress.{Progress}
use Rattle.wc_semantics.specs.declared.progress.Replayed.{Replayed}
use Rattle.wc_semantics.specs.declared.progress.Stepped.{Stepped}
use Rattle.wc_semantics.specs.declared.progress.Stepped.TheVariants.{Stops, Makes}
use Rattle.wc_semantics.specs.Tables.{Label}
use Rattle.wc_semantics.specs.Statements.{statements}
use Rattle.wc_semantics.specs.Run.{Call, Around, Act, ◌>->◌, spend, taken, by_value, next_label, with_call, take_calls, is_stop, stopped, make_calls, after, test, picked, turns, returned, exec, run_block, run, instrs}
use Rattle.wc_semantics.specs.Laws.{arm_block, arm_list, else_list, MoreAnswer}
use Rattle.wc_semantics.proofs.Induction.{AllOf, OptionOf, Inside, every_list}
use Rattle.wc_semantics.proofs.Acts.{opened, exec_is, block_is, picked_lists}
use Rattle.wc_semantics.proofs.Frugal.{Picks, picks}

-- the second is the first with k more of fuel, unless the first lacked fuel
abbrev pub MoreFlow : ℕ → Flow → Flow → Type 0
MoreFlow k (Goes m e) g = g ≡ Goes (m + k) e
MoreFlow k (Ends s m e) g = g ≡ Ends s (m + k) e
MoreFlow k NoFuel g = Unit {0}
MoreFlow k (Lacks q) g = g ≡ Lacks q
MoreFlow k Off g = g ≡ Off

abbrev pub MoreCall : Call → Type 0
MoreCall call = (l : Label) (n n' k : ℕ) (name : List ℕ) (inputs : Values) → n' ≡ n + k → MoreAnswer k (call l n name inputs) (call l n' name inputs)

abbrev pub More : Act → Type 0
More x = (a : Around) → MoreCall a.call → (n n' k : ℕ) (e : Progress) → n' ≡ n + k → MoreFlow k (x a n e) (x a n' e)

goes_more : (n n' k : ℕ) (e : Progress) → n' ≡ n + k → MoreFlow k (Goes n e) (Goes n' e)
goes_more n n' k e h = ap (λ m. Goes m e) h

ends_more : (s : ProcessState) (n n' k : ℕ) (e : Progress) → n' ≡ n + k → MoreFlow k (Ends s n e) (Ends s n' e)
ends_more s n n' k e h = ap (λ m. Ends s m e) h

follow_more : (k : ℕ) (f g : Flow) (h h' : ℕ → Progress → Flow) → MoreFlow k f g
    → ((n n' : ℕ) (e : Progress) → n' ≡ n + k → MoreFlow k (h n e) (h' n' e)) → MoreFlow k (f >-> h) (g >-> h')
follow_more k (Goes m e) g h h' p q = subst (λ (z : Flow). MoreFlow k (h m e) (z >-> h')) (sym p) (q m (m + k) e refl)
follow_more k (Ends s m e) g h h' p q = ap (λ z. z >-> h') p
follow_more k NoFuel g h h' p q = tt
follow_more k (Lacks r) g h h' p q = ap (λ z. z >-> h') p
follow_more k Off g h h' p q = ap (λ z. z >-> h') p

spend_more : (n n' k : ℕ) (f f' : ℕ → Flow) → n' ≡ n + k → ((m m' : ℕ) → m' ≡ m + k → MoreFlow k (f m) (f' m')) → MoreFlow k (spend n f) (spend n' f')
spend_more zero n' k f f' h q = tt
spend_more (suc n) zero k f f' h q = absurd (omega arith)
spend_more (suc n) (suc n') k f f' h q = q n n' (omega arith)

taken_more : (k : ℕ) (x y : Answer) (f f' : Replayed → ℕ → Flow) → MoreAnswer k x y
    → ((t : Replayed) (m m' : ℕ) → m' ≡ m + k → MoreFlow k (f t m) (f' t m')) → MoreFlow k (taken x f) (taken y f')
taken_more k (Gave t m) y f f' p q = subst (λ (z : Answer). MoreFlow k (f t m) (taken z f')) (sym p) (q t m (m + k) refl)
taken_more k TooLittle y f f' p q = tt
taken_more k (Without r) y f f' p q = ap (λ z. taken z f') p
taken_more k Astray y f f' p q = ap (λ z. taken z f') p

test_more : (o : Outcome Bool) (n n' k : ℕ) (e : Progress) (a b a' b' : Flow) → n' ≡ n + k → MoreFlow k a a' → MoreFlow k b b' → MoreFlow k (test o n e a b) (test o n' e a' b')
test_more (Faults r) n n' k e a b a' b' h p q = ends_more (Excepted r) n n' k e h
test_more (Gives true) n n' k e a b a' b' h p q = p
test_more (Gives false) n n' k e a b a' b' h p q = q

pub take_more : (ps : List Planned) → More (take_calls ps)
take_more [] a c n n' k e h = goes_more n n' k e h
take_more (p ∷ ps) a c n n' k e h = spend_more n n' k _ _ h
    (λ m m' i. taken_more k (a.call (next_label p e) m p.callee p.inputs) (a.call (next_label p e) m' p.callee p.inputs) _ _ (c (next_label p e) m m' k p.callee p.inputs i)
    (λ t l l' j. take_more ps a c l l' k (with_call p (next_label p e) t e) j))

stop_more : (b : Bool) (n n' k : ℕ) (e : Progress) → n' ≡ n + k → MoreFlow k (if b then Ends Killed n e else Goes n e) (if b then Ends Killed n' e else Goes n' e)
stop_more true n n' k e h = ends_more Killed n n' k e h
stop_more false n n' k e h = goes_more n n' k e h

pub make_more : (ps : List Planned) → More (make_calls ps)
make_more [] a c n n' k e h = goes_more n n' k e h
make_more (p ∷ ps) a c n n' k e h = follow_more k (take_calls (p ∷ ps) a n e) (take_calls (p ∷ ps) a n' e) (stopped a) (stopped a) (take_more (p ∷ ps) a c n n' k e h)
    (λ m m' d i. stop_more (is_stop a.stop (length d.calls)) m m' k d i)

after_more : (s : Stepped) → More (after s)
after_more (Stops s env outs) a c n n' k e h = ends_more s n n' k (record { env = env; outputs = outs; calls = e.calls }) h
after_more (Makes ps env outs) a c n n' k e h = make_more ps a c n n' k (record { env = env; outputs = outs; calls = e.calls }) h

all_more : (is : List Instr) → AllOf (λ i. More (exec i)) is → More (run is)
all_more [] t a c n n' k e h = goes_more n n' k e h
all_more (i ∷ is) t a c n n' k e h = follow_more k (exec i a n e) (exec i a n' e) (run is a) (run is a) (t.0 a c n n' k e h) (λ m m' d j. all_more is t.1 a c m m' k d j)

turns_more : (b b' : ℕ) (x : Expr) (body : Act) → More body → b ≤ b' → (a : Around) → MoreCall a.call → (n n' k : ℕ) (e : Progress) → n' ≡ n + k
    → MoreFlow k (turns b x body a n e) (turns b' x body a n' e)
turns_more zero zero x body t l a c n n' k e h = test_more (holds x e.env) n n' k e _ _ _ _ h tt (goes_more n n' k e h)
turns_more zero (suc b') x body t l a c n n' k e h = test_more (holds x e.env) n n' k e _ _ _ _ h tt (goes_more n n' k e h)
turns_more (suc b) zero x body t l a c n n' k e h = absurd (omega arith)
turns_more (suc b) (suc b') x body t l a c n n' k e h = test_more (holds x e.env) n n' k e _ _ _ _ h
    (spend_more n n' k _ _ h (λ m m' i. follow_more k (body a m e) (body a m' e) _ _ (t a c m m' k e i)
    (λ r r' d j. turns_more b b' x body t (omega arith) a c r r' k d j)))
    (goes_more n n' k e h)

value_picked : (o : Outcome (List Instr)) (a : Around) (n n' k : ℕ) (e : Progress) → n' ≡ n + k → Picks (λ js. More (run js)) o → MoreCall a.call
    → MoreFlow k (by_value (mapped run o) n e (λ x. x a n e)) (by_value (mapped run o) n' e (λ x. x a n' e))
value_picked (Gives js) a n n' k e h t c = t a c n n' k e h
value_picked (Faults r) a n n' k e h t c = ends_more (Excepted r) n n' k e h

blocks_more : (arms : List Arm) → AllOf (λ x. More (run_block (arm_block x))) arms → AllOf (λ x. More (run (instrs (arm_block x)))) arms
blocks_more [] t = tt
blocks_more (x ∷ xs) t = (subst More (block_is (arm_block x)) t.0, blocks_more xs t.1)

else_more : (other : Option Block) → OptionOf (λ b. More (run_block b)) other → More (run (else_list other))
else_more None t = λ a c n n' k e h. goes_more n n' k e h
else_more (Some b) t = subst More (block_is b) t

opened_more : (y : Instr-F Instr Arm Block) → Inside (λ b. More (run_block b)) y → More (opened y)
opened_more (Instr-F.Step s) t a c n n' k e h = after_more (statements a.deep a.takes a.kinds s.stmts [] e.env e.outputs) a c n n' k e h
opened_more (Instr-F.If at arms other) t a c n n' k e h =
    subst (λ (o : Outcome Act). MoreFlow k (by_value o n e (λ x. x a n e)) (by_value o n' e (λ x. x a n' e))) (sym (picked_lists arms other e.env))
    (value_picked (picked (map arm_list arms) (else_list other) e.env) a n n' k e h
    (picks (λ js. More (run js)) arms other e.env (blocks_more arms t.0) (else_more other t.1)) c)
opened_more (Instr-F.While at x b) t a c n n' k e h = turns_more n n' x (run_block b) t (omega arith) a c n n' k e h
opened_more (Instr-F.Return at code) t a c n n' k e h = ends_more (Finished (returned code)) n n' k e h

exec_more : (i : Instr) → Inside (λ b. More (run_block b)) (out-Instr i) → More (exec i)
exec_more i t = subst More (sym (exec_is i)) (opened_more (out-Instr i) t)

many_more : (b : Block) → AllOf (λ i. More (exec i)) (instrs b) → More (run_block b)
many_more b t = subst More (sym (block_is b)) (all_more (instrs b) t)

pub run_more : (is : List Instr) → More (run is)
run_more is = all_more is (every_list (λ i. More (exec i)) (λ b. More (run_block b)) exec_more many_more is)
