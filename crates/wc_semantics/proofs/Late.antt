-- A run isn't killed at a stop that it has already reached.
use Rattle.std.proofs.Common.{◌≡◌, ℕ, zero, suc, ◌+◌, ◌≤◌, Bool, true, false, List, [], ◌∷◌, ◌++◌, Option, Some, None, map, refl, sym, ap, subst, ◌∙◌, arith}
use Rattle.std.specs.Prelude.{if◌then◌else◌, length, nat_eq, ◌<◌}
use Rattle.std.proofs.lemmas.Bool.{eqb-true}
use Rattle.wc_value.specs.declared.process.ProcessState.{ProcessState}
use Rattle.wc_value.specs.declared.process.ProcessState.TheVariants.{Created, Running, Waiting, Finished, Excepted, Killed}
use Rattle.wc_syntax.specs.declared.definition.Port.{Port}
use Rattle.wc_syntax.specs.declared.expression.Expr.{Expr}
use Rattle.wc_syntax.specs.declared.outline.Instr.{Instr, out-Instr}
use Rattle.wc_syntax.specs.declared.outline.Instr.TheOpen.{Instr-F}
use Rattle.wc_syntax.specs.declared.outline.Arm.{Arm}
use Rattle.wc_syntax.specs.declared.outline.Block.{Block}
use Rattle.wc_expression.specs.declared.outcome.Outcome.{Outcome}
use Rattle.wc_expression.specs.declared.outcome.Outcome.TheVariants.{Gives, Faults}
use Rattle.wc_expression.specs.Outcomes.{mapped}
use Rattle.wc_expression.specs.Val.{holds}
use Rattle.wc_semantics.specs.Rules.{Values}
use Rattle.wc_semantics.specs.declared.progress.Answer.{Answer}
use Rattle.wc_semantics.specs.declared.progress.Answer.TheVariants.{Gave, TooLittle, Without, Astray}
use Rattle.wc_semantics.specs.declared.progress.Flow.{Flow}
use Rattle.wc_semantics.specs.declared.progress.Flow.TheVariants.{Goes, Ends, NoFuel, Lacks, Off}
use Rattle.wc_semantics.specs.declared.progress.Planned.{Planned}
use Rattle.wc_semantics.specs.declared.progress.Progress.{Progress}
use Rattle.wc_semantics.specs.declared.progress.Replayed.{Replayed}
use Rattle.wc_semantics.specs.declared.progress.Stepped.{Stepped}
use Rattle.wc_semantics.specs.declared.progress.Stepped.TheVariants.{Stops, Makes}
use Rattle.wc_semantics.specs.Statements.{statements}
use Rattle.wc_semantics.specs.Run.{Around, Act, ◌>->◌, spend, taken, by_value, next_label, with_call, take_calls, is_stop, stopped, make_calls, after, test, picked, turns, exec, run_block, run, instrs}
use Rattle.wc_semantics.specs.Meaning.{judged, is_killed, chain_tree, end, ended}
use Rattle.wc_semantics.specs.Laws.{arm_block, arm_list, else_list}
use Rattle.wc_semantics.proofs.Induction.{AllOf, OptionOf, Inside, every_list}
use Rattle.wc_semantics.proofs.Acts.{opened, exec_is, block_is, picked_lists}
use Rattle.wc_semantics.proofs.Frugal.{Picks, picks}
use Rattle.wc_semantics.proofs.Steps.{Fine, fine}

-- with at least c calls made where it goes on; and not killed
abbrev pub LateFlow : ℕ → Flow → Type 0
LateFlow c (Goes m e) = c ≤ length e.calls
LateFlow c (Ends s m e) = is_killed s ≡ false
LateFlow c NoFuel = Unit {0}
LateFlow c (Lacks q) = Unit {0}
LateFlow c Off = Unit {0}

-- at a stop that was reached, that is with at least as many calls made
abbrev pub Late : Act → Type 0
Late x = (a : Around) (c : ℕ) → a.stop ≡ Some c → (n : ℕ) (e : Progress) → c ≤ length e.calls → LateFlow c (x a n e)

follow_late : (c d : ℕ) (f : Flow) (g : ℕ → Progress → Flow) → LateFlow d f → ((m : ℕ) (e : Progress) → d ≤ length e.calls → LateFlow c (g m e)) → LateFlow c (f >-> g)
follow_late c d (Goes m e) g p q = q m e p
follow_late c d (Ends s m e) g p q = p
follow_late c d NoFuel g p q = tt
follow_late c d (Lacks r) g p q = tt
follow_late c d Off g p q = tt

spend_late : (c n : ℕ) (f : ℕ → Flow) → ((m : ℕ) → LateFlow c (f m)) → LateFlow c (spend n f)
spend_late c zero f p = tt
spend_late c (suc n) f p = p n

taken_late : (c : ℕ) (x : Answer) (f : Replayed → ℕ → Flow) → ((t : Replayed) (m : ℕ) → LateFlow c (f t m)) → LateFlow c (taken x f)
taken_late c (Gave t m) f q = q t m
taken_late c TooLittle f q = tt
taken_late c (Without r) f q = tt
taken_late c Astray f q = tt

test_late : (c : ℕ) (o : Outcome Bool) (n : ℕ) (e : Progress) (f g : Flow) → LateFlow c f → LateFlow c g → LateFlow c (test o n e f g)
test_late c (Faults r) n e f g p q = refl
test_late c (Gives true) n e f g p q = p
test_late c (Gives false) n e f g p q = q

one_more : {A : Type 0} (xs : List A) (x : A) → length (xs ++ x ∷ []) ≡ length xs + 1
one_more [] x = refl
one_more (y ∷ ys) x = omega (arith, one_more ys x)

-- each call is one more
take_grows : (ps : List Planned) (a : Around) (n : ℕ) (e : Progress) → LateFlow (length e.calls + length ps) (take_calls ps a n e)
take_grows [] a n e = omega arith
take_grows (p ∷ ps) a n e = spend_late _ n _ (λ m. taken_late _ (a.call (next_label p e) m p.callee p.inputs) _
    (λ t left. subst (λ (k : ℕ). LateFlow k (take_calls ps a left (with_call p (next_label p e) t e))) (omega (arith, one_more e.calls (next_label p e, t)))
    (take_grows ps a left (with_call p (next_label p e) t e))))

passed : (c : ℕ) (b : Bool) (m : ℕ) (d : Progress) → c < length d.calls → nat_eq c (length d.calls) ≡ b → LateFlow c (if b then Ends Killed m d else Goes m d)
passed c true m d h p = absurd (no (eqb-true c (length d.calls) p))
  where
    no : c ≡ length d.calls → ⊥
    no e = omega arith
passed c false m d h p = omega arith

make_late : (ps : List Planned) → Late (make_calls ps)
make_late [] a c h n e l = l
make_late (p ∷ ps) a c h n e l = follow_late c (length e.calls + length (p ∷ ps)) (take_calls (p ∷ ps) a n e) (stopped a) (take_grows (p ∷ ps) a n e)
    (λ m d k. subst (λ (s : Option ℕ). LateFlow c (if is_stop s (length d.calls) then Ends Killed m d else Goes m d)) (sym h)
    (passed c (nat_eq c (length d.calls)) m d (omega arith) refl))

after_late : (s : Stepped) (deep : Bool) (takes : List ℕ → Values → Bool) → Fine deep takes s → Late (after s)
after_late (Stops s env outs) deep takes p a c h n e l = p
after_late (Makes ps env outs) deep takes p a c h n e l = make_late ps a c h n (record { env = env; outputs = outs; calls = e.calls }) l

all_late : (is : List Instr) → AllOf (λ i. Late (exec i)) is → Late (run is)
all_late [] t a c h n e l = l
all_late (i ∷ is) t a c h n e l = follow_late c c (exec i a n e) (run is a) (t.0 a c h n e l) (λ m d k. all_late is t.1 a c h m d k)

turns_late : (most : ℕ) (x : Expr) (body : Act) → Late body → Late (turns most x body)
turns_late zero x body t a c h n e l = test_late c (holds x e.env) n e NoFuel (Goes n e) tt l
turns_late (suc most) x body t a c h n e l = test_late c (holds x e.env) n e _ (Goes n e)
    (spend_late c n _ (λ m. follow_late c c (body a m e) (turns most x body a) (t a c h m e l) (λ k d j. turns_late most x body t a c h k d j)))
    l

value_picked : (o : Outcome (List Instr)) (a : Around) (c n : ℕ) (e : Progress) → a.stop ≡ Some c → c ≤ length e.calls → Picks (λ js. Late (run js)) o
    → LateFlow c (by_value (mapped run o) n e (λ x. x a n e))
value_picked (Gives js) a c n e h l t = t a c h n e l
value_picked (Faults r) a c n e h l t = refl

blocks_late : (arms : List Arm) → AllOf (λ x. Late (run_block (arm_block x))) arms → AllOf (λ x. Late (run (instrs (arm_block x)))) arms
blocks_late [] t = tt
blocks_late (x ∷ xs) t = (subst Late (block_is (arm_block x)) t.0, blocks_late xs t.1)

else_late : (other : Option Block) → OptionOf (λ b. Late (run_block b)) other → Late (run (else_list other))
else_late None t = λ a c h n e l. l
else_late (Some b) t = subst Late (block_is b) t

opened_late : (y : Instr-F Instr Arm Block) → Inside (λ b. Late (run_block b)) y → Late (opened y)
opened_late (Instr-F.Step s) t a c h n e l = after_late (statements a.deep a.takes a.kinds s.stmts [] e.env e.outputs) a.deep a.takes (fine a.deep a.takes a.kinds s.stmts [] e.env e.outputs tt) a c h n e l
opened_late (Instr-F.If at arms other) t a c h n e l =
    subst (λ (o : Outcome Act). LateFlow c (by_value o n e (λ x. x a n e))) (sym (picked_lists arms other e.env))
    (value_picked (picked (map arm_list arms) (else_list other) e.env) a c n e h l
    (picks (λ js. Late (run js)) arms other e.env (blocks_late arms t.0) (else_late other t.1)))
opened_late (Instr-F.While at x b) t a c h n e l = turns_late n x (run_block b) t a c h n e l
opened_late (Instr-F.Return at code) t a c h n e l = refl

exec_late : (i : Instr) → Inside (λ b. Late (run_block b)) (out-Instr i) → Late (exec i)
exec_late i t = subst Late (sym (exec_is i)) (opened_late (out-Instr i) t)

many_late : (b : Block) → AllOf (λ i. Late (exec i)) (instrs b) → Late (run_block b)
many_late b t = subst Late (sym (block_is b)) (all_late (instrs b) t)

pub run_late : (is : List Instr) → Late (run is)
run_late is = all_late is (every_list (λ i. Late (exec i)) (λ b. Late (run_block b)) exec_late many_late is)

-- ---- so it gives no tree

pub judged_late : (ports : List Port) (s : ProcessState) (outs : Values) → is_killed s ≡ false → is_killed (judged ports s outs) ≡ false
judged_late ports Created outs h = refl
judged_late ports Running outs h = refl
judged_late ports Waiting outs h = refl
judged_late ports (Finished n) outs h = refl
judged_late ports (Excepted r) outs h = refl
judged_late ports Killed outs h = h

no_tree : (c : ℕ) (name : List ℕ) (s : ProcessState) (n : ℕ) (e : Progress) (t : Replayed) (m : ℕ) → is_killed s ≡ false → end (Some c) name s n e ≡ Gave t m → ⊥
no_tree c name s n e t m h p = no ((ap (λ (b : Bool). if (if b then false else true) then Astray else Gave (chain_tree name s e) n) (sym h)) ∙ p)
  where
    no : Astray ≡ Gave t m → ⊥
    no q = cc

ended_late : (c d : ℕ) (name : List ℕ) (ports : List Port) (f : Flow) (t : Replayed) (m : ℕ) → LateFlow d f → ended (Some c) name ports f ≡ Gave t m → ⊥
ended_late c d name ports (Goes k e) t m l p = no_tree c name (judged ports (Finished 0) e.outputs) k e t m refl p
ended_late c d name ports (Ends s k e) t m l p = no_tree c name (judged ports s e.outputs) k e t m (judged_late ports s e.outputs l) p
ended_late c d name ports NoFuel t m l p = cc
ended_late c d name ports (Lacks q) t m l p = cc
ended_late c d name ports Off t m l p = cc

-- A run with a stop that it has reached gives no tree.
pub late_gives_none : (c : ℕ) (name : List ℕ) (ports : List Port) (is : List Instr) (a : Around) (n : ℕ) (e : Progress) (t : Replayed) (m : ℕ)
    → a.stop ≡ Some c → c ≤ length e.calls → ended (Some c) name ports (run is a n e) ≡ Gave t m → ⊥
late_gives_none c name ports is a n e t m h l p = ended_late c c name ports (run is a n e) t m (run_late is a c h n e l) p
