-- A run sees the calls that were made before it through their number alone.
use Rattle.std.proofs.Common.{◌≡◌, ℕ, zero, suc, ◌+◌, Bool, true, false, List, [], ◌∷◌, ◌++◌, Option, Some, None, map, refl, sym, ap, subst, ◌∙◌}
use Rattle.std.specs.Prelude.{if◌then◌else◌, length, drop}
use Rattle.std.proofs.lemmas.List.{append_assoc, append-nil, length-append, length-map, map-append}
use Rattle.wc_value.specs.declared.process.ProcessState.{ProcessState}
use Rattle.wc_value.specs.declared.process.ProcessState.TheVariants.{Finished, Excepted, Killed}
use Rattle.wc_value.specs.declared.process.Tree.{roll-Tree}
use Rattle.wc_syntax.specs.declared.definition.Port.{Port}
use Rattle.wc_syntax.specs.declared.expression.Expr.{Expr}
use Rattle.wc_syntax.specs.declared.outline.Instr.{Instr, out-Instr}
use Rattle.wc_syntax.specs.declared.outline.Instr.TheOpen.{Instr-F}
use Rattle.wc_syntax.specs.declared.outline.Arm.{Arm}
use Rattle.wc_syntax.specs.declared.outline.Block.{Block}
use Rattle.wc_syntax.specs.declared.outline.Stmt.{Stmt}
use Rattle.wc_expression.specs.declared.outcome.Outcome.{Outcome}
use Rattle.wc_expression.specs.declared.outcome.Outcome.TheVariants.{Gives, Faults}
use Rattle.wc_expression.specs.Outcomes.{mapped}
use Rattle.wc_expression.specs.Val.{holds}
use Rattle.wc_semantics.specs.declared.progress.Answer.{Answer}
use Rattle.wc_semantics.specs.declared.progress.Answer.TheVariants.{Gave, TooLittle, Without, Astray}
use Rattle.wc_semantics.specs.declared.progress.Flow.{Flow}
use Rattle.wc_semantics.specs.declared.progress.Flow.TheVariants.{Goes, Ends, NoFuel, Lacks, Off}
use Rattle.wc_semantics.specs.declared.progress.Planned.{Planned}
use Rattle.wc_semantics.specs.declared.progress.Progress.{Progress}
use Rattle.wc_semantics.specs.declared.progress.Replayed.{Replayed}
use Rattle.wc_semantics.specs.declared.progress.Stepped.{Stepped}
use Rattle.wc_semantics.specs.declared.progress.Stepped.TheVariants.{Stops, Makes}
use Rattle.wc_semantics.specs.Laws.{arm_block, arm_list, else_list}
use Rattle.wc_semantics.specs.Meaning.{its_tree, kept, judged, strays, chain_tree, end, ended}
use Rattle.wc_semantics.specs.Run.{Around, Act, ◌>->◌, spend, taken, by_value, label, child, bound, next_label, with_call, take_calls, is_stop, stopped, make_calls, after, step_of, test, picked, turns, returned, exec, run_block, run, instrs}
use Rattle.wc_semantics.specs.Statements.{statements}
use Rattle.wc_semantics.specs.Tables.{Label}
use Rattle.wc_semantics.proofs.Acts.{opened, exec_is, block_is, picked_lists}
use Rattle.wc_semantics.proofs.Frugal.{Picks, picks}
use Rattle.wc_semantics.proofs.Induction.{AllOf, OptionOf, Inside, every_list}
use Rattle.wc_turn_laws.specs.Instead.{MadeCalls, flow_instead, GiveOneTree}
use Rattle.wc_turn_laws.specs.RunLaws.{RunsSeeNumbers, EqualTreesEndAlike}

-- with calls that were made before those that are there
abbrev behind : MadeCalls → Progress → Progress
behind cs e = record { env = e.env; outputs = e.outputs; calls = cs ++ e.calls }

abbrev onto : MadeCalls → Flow → Flow
onto cs (Goes n e) = Goes n (behind cs e)
onto cs (Ends s n e) = Ends s n (behind cs e)
onto cs NoFuel = NoFuel
onto cs (Lacks q) = Lacks q
onto cs Off = Off

-- What follows k calls is one and the same flow, behind whichever they are.
abbrev Blind : ℕ → (MadeCalls → Flow) → Type 0
Blind k f = (g : Flow) × ((cs : MadeCalls) → length cs ≡ k → f cs ≡ onto cs g)

abbrev BlindAct : Act → Type 0
BlindAct x = (a : Around) (n : ℕ) (e : Progress) (k : ℕ) → Blind k (λ cs. x a n (behind cs e))

same_blind : (k : ℕ) (f f' : MadeCalls → Flow) → ((cs : MadeCalls) → length cs ≡ k → f cs ≡ f' cs) → Blind k f' → Blind k f
same_blind k f f' p t = (t.0, λ cs h. p cs h ∙ t.1 cs h)

follow_blind : (k : ℕ) (f : MadeCalls → Flow) (y : ℕ → Progress → Flow) → Blind k f → ((m : ℕ) (d : Progress) → Blind k (λ cs. y m (behind cs d))) → Blind k (λ cs. f cs >-> y)
follow_blind k f y t q = at t.0 t.1
  where
    at : (g : Flow) → ((cs : MadeCalls) → length cs ≡ k → f cs ≡ onto cs g) → Blind k (λ cs. f cs >-> y)
    at (Goes m d) p = ((q m d).0, λ cs h. ap (λ (x : Flow). x >-> y) (p cs h) ∙ (q m d).1 cs h)
    at (Ends s m d) p = (Ends s m d, λ cs h. ap (λ (x : Flow). x >-> y) (p cs h))
    at NoFuel p = (NoFuel, λ cs h. ap (λ (x : Flow). x >-> y) (p cs h))
    at (Lacks r) p = (Lacks r, λ cs h. ap (λ (x : Flow). x >-> y) (p cs h))
    at Off p = (Off, λ cs h. ap (λ (x : Flow). x >-> y) (p cs h))

spend_blind : (k n : ℕ) (f : MadeCalls → ℕ → Flow) → ((m : ℕ) → Blind k (λ cs. f cs m)) → Blind k (λ cs. spend n (f cs))
spend_blind k zero f p = (NoFuel, λ cs h. refl)
spend_blind k (suc n) f p = p n

taken_blind : (k : ℕ) (x : Answer) (f : MadeCalls → Replayed → ℕ → Flow) → ((t : Replayed) (m : ℕ) → Blind k (λ cs. f cs t m)) → Blind k (λ cs. taken x (f cs))
taken_blind k (Gave t m) f p = p t m
taken_blind k TooLittle f p = (NoFuel, λ cs h. refl)
taken_blind k (Without r) f p = (Lacks r, λ cs h. refl)
taken_blind k Astray f p = (Off, λ cs h. refl)

test_blind : (k : ℕ) (o : Outcome Bool) (n : ℕ) (e : Progress) (f g : MadeCalls → Flow) → Blind k f → Blind k g → Blind k (λ cs. test o n (behind cs e) (f cs) (g cs))
test_blind k (Faults r) n e f g p q = (Ends (Excepted r) n e, λ cs h. refl)
test_blind k (Gives true) n e f g p q = p
test_blind k (Gives false) n e f g p q = q

nothing_blind : (k n : ℕ) (e : Progress) → Blind k (λ cs. Goes n (behind cs e))
nothing_blind k n e = (Goes n e, λ cs h. refl)

-- ---- the calls of a step: a label and the stop have the number of calls

many : (k : ℕ) (e : Progress) (cs : MadeCalls) → length cs ≡ k → length (cs ++ e.calls) ≡ k + length e.calls
many k e cs h = length-append cs e.calls ∙ ap (λ (j : ℕ). j + length e.calls) h

take_blind : (ps : List Planned) → BlindAct (take_calls ps)
take_blind [] a n e k = nothing_blind k n e
take_blind (p ∷ ps) a n e k =
    let l : Label = label p.key (k + length e.calls + 1) in
    same_blind k (λ cs. take_calls (p ∷ ps) a n (behind cs e))
    (λ cs. spend n (λ m. taken (a.call l m p.callee p.inputs) (λ t left. take_calls ps a left (behind cs (with_call p l t e)))))
    (λ cs h. let q : next_label p (behind cs e) ≡ l = ap (λ (j : ℕ). label p.key (j + 1)) (many k e cs h) in
    λ i. spend n (λ m. taken (a.call (q i) m p.callee p.inputs)
    (λ t left. take_calls ps a left (record { env = bound p (child t) e.env; outputs = e.outputs; calls = append_assoc cs e.calls ((q i, t) ∷ []) i }))))
    (spend_blind k n _ (λ m. taken_blind k (a.call l m p.callee p.inputs) _ (λ t left. take_blind ps a left (with_call p l t e) k)))

stop_blind : (k : ℕ) (b : Bool) (n : ℕ) (e : Progress) → Blind k (λ cs. if b then Ends Killed n (behind cs e) else Goes n (behind cs e))
stop_blind k true n e = (Ends Killed n e, λ cs h. refl)
stop_blind k false n e = (Goes n e, λ cs h. refl)

stopped_blind : BlindAct stopped
stopped_blind a n e k = same_blind k (λ cs. stopped a n (behind cs e)) _
    (λ cs h. ap (λ (j : ℕ). if is_stop a.stop j then Ends Killed n (behind cs e) else Goes n (behind cs e)) (many k e cs h))
    (stop_blind k (is_stop a.stop (k + length e.calls)) n e)

make_blind : (ps : List Planned) → BlindAct (make_calls ps)
make_blind [] a n e k = nothing_blind k n e
make_blind (p ∷ ps) a n e k = follow_blind k (λ cs. take_calls (p ∷ ps) a n (behind cs e)) (stopped a) (take_blind (p ∷ ps) a n e k) (λ m d. stopped_blind a m d k)

after_blind : (s : Stepped) → BlindAct (after s)
after_blind (Stops s env outs) a n e k = (Ends s n (record { env = env; outputs = outs; calls = e.calls }), λ cs h. refl)
after_blind (Makes ps env outs) a n e k = make_blind ps a n (record { env = env; outputs = outs; calls = e.calls }) k

step_blind : (ss : List Stmt) → BlindAct (step_of ss)
step_blind ss a n e k = after_blind (statements a.deep a.takes a.kinds ss [] e.env e.outputs) a n e k

-- ---- instructions

all_blind : (is : List Instr) → AllOf (λ i. BlindAct (exec i)) is → BlindAct (run is)
all_blind [] t a n e k = nothing_blind k n e
all_blind (i ∷ is) t a n e k = follow_blind k (λ cs. exec i a n (behind cs e)) (run is a) (t.0 a n e k) (λ m d. all_blind is t.1 a m d k)

turns_blind : (most : ℕ) (x : Expr) (body : Act) → BlindAct body → BlindAct (turns most x body)
turns_blind zero x body t a n e k = test_blind k (holds x e.env) n e _ _ (NoFuel, λ cs h. refl) (nothing_blind k n e)
turns_blind (suc most) x body t a n e k = test_blind k (holds x e.env) n e _ _
    (spend_blind k n _ (λ m. follow_blind k (λ cs. body a m (behind cs e)) (turns most x body a) (t a m e k) (λ j d. turns_blind most x body t a j d k)))
    (nothing_blind k n e)

value_picked : (o : Outcome (List Instr)) (a : Around) (n : ℕ) (e : Progress) (k : ℕ) → Picks (λ js. BlindAct (run js)) o
    → Blind k (λ cs. by_value (mapped run o) n (behind cs e) (λ x. x a n (behind cs e)))
value_picked (Gives js) a n e k t = t a n e k
value_picked (Faults r) a n e k t = (Ends (Excepted r) n e, λ cs h. refl)

blocks_blind : (arms : List Arm) → AllOf (λ x. BlindAct (run_block (arm_block x))) arms → AllOf (λ x. BlindAct (run (instrs (arm_block x)))) arms
blocks_blind [] t = tt
blocks_blind (x ∷ xs) t = (subst BlindAct (block_is (arm_block x)) t.0, blocks_blind xs t.1)

else_blind : (other : Option Block) → OptionOf (λ b. BlindAct (run_block b)) other → BlindAct (run (else_list other))
else_blind None t = λ a n e k. nothing_blind k n e
else_blind (Some b) t = subst BlindAct (block_is b) t

opened_blind : (y : Instr-F Instr Arm Block) → Inside (λ b. BlindAct (run_block b)) y → BlindAct (opened y)
opened_blind (Instr-F.Step s) t a n e k = step_blind s.stmts a n e k
opened_blind (Instr-F.If at arms other) t a n e k =
    subst (λ (o : Outcome Act). Blind k (λ cs. by_value o n (behind cs e) (λ x. x a n (behind cs e)))) (sym (picked_lists arms other e.env))
    (value_picked (picked (map arm_list arms) (else_list other) e.env) a n e k
    (picks (λ js. BlindAct (run js)) arms other e.env (blocks_blind arms t.0) (else_blind other t.1)))
opened_blind (Instr-F.While at x b) t a n e k = turns_blind n x (run_block b) t a n e k
opened_blind (Instr-F.Return at code) t a n e k = (Ends (Finished (returned code)) n e, λ cs h. refl)

exec_blind : (i : Instr) → Inside (λ b. BlindAct (run_block b)) (out-Instr i) → BlindAct (exec i)
exec_blind i t = subst BlindAct (sym (exec_is i)) (opened_blind (out-Instr i) t)

many_blind : (b : Block) → AllOf (λ i. BlindAct (exec i)) (instrs b) → BlindAct (run_block b)
many_blind b t = subst BlindAct (sym (block_is b)) (all_blind (instrs b) t)

pub run_blind : (is : List Instr) → BlindAct (run is)
run_blind is = all_blind is (every_list (λ i. BlindAct (exec i)) (λ b. BlindAct (run_block b)) exec_blind many_blind is)

-- ---- two runs, behind lists of calls of one length

-- one flow, behind one list of calls and behind another
abbrev OneFlow : MadeCalls → MadeCalls → Flow → Flow → Type 0
OneFlow cs cs' f f' = (g : Flow) × (f ≡ onto cs g) × (f' ≡ onto cs' g)

one_flow : (x : Act) → BlindAct x → (a : Around) (n : ℕ) (e e' : Progress) → e.env ≡ e'.env → e.outputs ≡ e'.outputs → length e.calls ≡ length e'.calls
    → OneFlow e.calls e'.calls (x a n e) (x a n e')
one_flow x t a n e e' p q h =
    let r = t a n (record { env = e.env; outputs = e.outputs; calls = [] }) (length e.calls) in (
      r.0,
      (λ i. x a n (record { env = e.env; outputs = e.outputs; calls = sym (append-nil e.calls) i })) ∙ r.1 e.calls refl,
      (λ i. x a n (record { env = sym p i; outputs = sym q i; calls = sym (append-nil e'.calls) i })) ∙ r.1 e'.calls (sym h),
    )

-- ---- with other calls in their place

dropped : (cs more : MadeCalls) → drop (length cs) (cs ++ more) ≡ more
dropped [] more = refl
dropped (c ∷ cs) more = dropped cs more

put_instead : (cs other : MadeCalls) (g : Flow) → onto other g ≡ flow_instead (length cs) other (onto cs g)
put_instead cs other (Goes n e) = λ i. Goes n (record { env = e.env; outputs = e.outputs; calls = other ++ sym (dropped cs e.calls) i })
put_instead cs other (Ends s n e) = λ i. Ends s n (record { env = e.env; outputs = e.outputs; calls = other ++ sym (dropped cs e.calls) i })
put_instead cs other NoFuel = refl
put_instead cs other (Lacks q) = refl
put_instead cs other Off = refl

pub runs_see_numbers : RunsSeeNumbers
runs_see_numbers is a n d e p q h =
    let t : OneFlow d.calls e.calls (run is a n d) (run is a n e) = one_flow (run is) (run_blind is) a n d e p q h in
    t.2 ∙ put_instead d.calls e.calls t.0 ∙ ap (flow_instead (length d.calls) e.calls) (sym t.1)

-- ---- the end of a run

same_calls : (cs other more : MadeCalls) → map its_tree cs ≡ map its_tree other → map its_tree (cs ++ more) ≡ map its_tree (other ++ more)
same_calls cs other more h = map-append its_tree cs more ∙ ap (λ ts. ts ++ map its_tree more) h ∙ sym (map-append its_tree other more)

ends_alike : (cs other : MadeCalls) (stop : Option ℕ) (name : List ℕ) (s : ProcessState) (n : ℕ) (e : Progress) → map its_tree cs ≡ map its_tree other
    → GiveOneTree (end stop name s n (behind cs e)) (end stop name s n (behind other e))
ends_alike cs other stop name s n e h = at (strays stop s)
  where
    at : (b : Bool) → GiveOneTree (if b then Astray else Gave (chain_tree name s (behind cs e)) n) (if b then Astray else Gave (chain_tree name s (behind other e)) n)
    at true = tt
    at false = (refl, (λ i. roll-Tree (record { definition = name; state = s; outputs = kept s e.outputs; calls = same_calls cs other e.calls h i })))

ended_alike : (cs other : MadeCalls) (stop : Option ℕ) (name : List ℕ) (ports : List Port) (g : Flow) → map its_tree cs ≡ map its_tree other
    → GiveOneTree (ended stop name ports (onto cs g)) (ended stop name ports (onto other g))
ended_alike cs other stop name ports (Goes n e) h = ends_alike cs other stop name (judged ports (Finished 0) e.outputs) n e h
ended_alike cs other stop name ports (Ends s n e) h = ends_alike cs other stop name (judged ports s e.outputs) n e h
ended_alike cs other stop name ports NoFuel h = tt
ended_alike cs other stop name ports (Lacks q) h = refl
ended_alike cs other stop name ports Off h = tt

same_length : (cs other : MadeCalls) → map its_tree cs ≡ map its_tree other → length cs ≡ length other
same_length cs other h = sym (length-map cs its_tree) ∙ ap length h ∙ length-map other its_tree

-- what a chain does that awaits calls
abbrev waits : List Planned → List Instr → Act
waits ps is a n e = make_calls ps a n e >-> run is a

waits_blind : (ps : List Planned) (is : List Instr) → BlindAct (waits ps is)
waits_blind ps is a n e k = follow_blind k (λ cs. make_calls ps a n (behind cs e)) (run is a) (make_blind ps a n e k) (λ m d. run_blind is a m d k)

pub equal_trees_end_alike : EqualTreesEndAlike
equal_trees_end_alike ps is a n d e stop name ports p q h =
    let t = one_flow (waits ps is) (waits_blind ps is) a n d e p q (same_length d.calls e.calls h) in
    subst (λ (x : Flow). GiveOneTree (ended stop name ports x) (ended stop name ports (waits ps is a n e))) (sym t.1)
    (subst (λ (x : Flow). GiveOneTree (ended stop name ports (onto d.calls t.0)) (ended stop name ports x)) (sym t.2) (ended_alike d.calls e.calls stop name ports t.0 h))
