-- With no kills and no stop nothing is killed, and no kill is missed.
use Rattle.std.proofs.Common.{◌≡◌, ℕ, zero, suc, Bool, true, false, List, [], ◌∷◌, Option, Some, None, map, refl, sym, ap, subst, ◌∙◌}
use Rattle.std.specs.Prelude.{if◌then◌else◌, length}
use Rattle.wc_value.specs.declared.process.JobResult.{JobResult}
use Rattle.wc_value.specs.declared.process.ProcessState.{ProcessState}
use Rattle.wc_value.specs.declared.process.ProcessState.TheVariants.{Finished, Killed}
use Rattle.wc_value.specs.declared.process.Request.{Request}
use Rattle.wc_syntax.specs.Findings.{definition_named}
use Rattle.wc_syntax.specs.declared.definition.Definition.{Definition}
use Rattle.wc_syntax.specs.declared.definition.Definition.TheVariants as definition
use Rattle.wc_syntax.specs.declared.definition.Port.{Port}
use Rattle.wc_syntax.specs.declared.expression.Expr.{Expr}
use Rattle.wc_syntax.specs.declared.outline.Instr.{Instr, out-Instr}
use Rattle.wc_syntax.specs.declared.outline.Instr.TheOpen.{Instr-F}
use Rattle.wc_syntax.specs.declared.outline.Arm.{Arm}
use Rattle.wc_syntax.specs.declared.outline.Block.{Block}
use Rattle.wc_expression.specs.declared.outcome.Outcome.{Outcome}
use Rattle.wc_expression.specs.declared.outcome.Outcome.TheVariants.{Gives, Faults}
use Rattle.wc_expression.specs.Outcomes.{mapped}
use Rattle.wc_expression.specs.Val.{holds}
use Rattle.wc_semantics.specs.declared.outcomes.Parsed.{Parsed}
use Rattle.wc_semantics.specs.Rules.{Values}
use Rattle.wc_semantics.specs.Requests.{request}
use Rattle.wc_semantics.specs.Outcomes.{calculated, parsed}
use Rattle.wc_semantics.specs.declared.progress.Answer.{Answer}
use Rattle.wc_semantics.specs.declared.progress.Answer.TheVariants.{Gave, TooLittle, Without, Astray}
use Rattle.wc_semantics.specs.declared.progress.Flow.{Flow}
use Rattle.wc_semantics.specs.declared.progress.Flow.TheVariants.{Goes, Ends, NoFuel, Lacks, Off}
use Rattle.wc_semantics.specs.declared.progress.Planned.{Planned}
use Rattle.wc_semantics.specs.declared.progress.Progress.{Progress}
use Rattle.wc_semantics.specs.declared.progress.Replayed.{Replayed}
use Rattle.wc_semantics.specs.declared.progress.Stepped.{Stepped}
use Rattle.wc_semantics.specs.declared.progress.Stepped.TheVariants.{Stops, Makes}
use Rattle.wc_semantics.specs.Tables.{Label, Table, under, no_kills}
use Rattle.wc_semantics.specs.Statements.{statements}
use Rattle.wc_semantics.specs.Run.{Around, Act, ◌>->◌, spend, taken, by_value, next_label, with_call, take_calls, is_stop, stopped, make_calls, after, test, picked, turns, exec, run_block, run, instrs}
use Rattle.wc_semantics.specs.Meaning.{judged, is_killed, end, ended, first, within, by_result, job, whole, leaf, surrounding, meaning, around}
use Rattle.wc_semantics.specs.Laws.{arm_block, arm_list, else_list, IsUncut}
use Rattle.wc_semantics.proofs.Induction.{AllOf, OptionOf, Inside, every_list}
use Rattle.wc_semantics.proofs.Acts.{opened, exec_is, block_is, picked_lists}
use Rattle.wc_semantics.proofs.Frugal.{Picks, picks}
use Rattle.wc_value.specs.declared.process.Tree.{Tree, Tree-F, out-Tree, roll-Tree, out-roll-Tree}
use Rattle.wc_semantics.specs.Outcomes.{concluded, excepted, retrieved, parse_env}
use Rattle.wc_semantics.specs.Rules.{End, env_of, run_rules}
use Rattle.wc_semantics.specs.Meaning.{kept, its_tree, takes_inputs, takes_of}
use Rattle.wc_semantics.proofs.Steps.{Callable, Fine, fine}
use Rattle.wc_semantics.proofs.Late.{judged_late}

abbrev pub UncutFlow : Flow → Type 0
UncutFlow (Goes m e) = Unit {0}
UncutFlow (Ends s m e) = is_killed s ≡ false
UncutFlow NoFuel = Unit {0}
UncutFlow (Lacks q) = Unit {0}
UncutFlow Off = ⊥

-- no stop, and calls that may be made are uncut
pub record IsUncutAround (a : Around) : Type 0 where
  pub stop : a.stop ≡ None
  pub call : (l : Label) (n : ℕ) (name : List ℕ) (inputs : Values) → a.deep ≡ false → a.takes name inputs ≡ true → IsUncut (a.call l n name inputs)

abbrev pub Uncut : Act → Type 0
Uncut x = (a : Around) → IsUncutAround a → (n : ℕ) (e : Progress) → UncutFlow (x a n e)

follow_uncut : (f : Flow) (g : ℕ → Progress → Flow) → UncutFlow f → ((m : ℕ) (e : Progress) → UncutFlow (g m e)) → UncutFlow (f >-> g)
follow_uncut (Goes m e) g p q = q m e
follow_uncut (Ends s m e) g p q = p
follow_uncut NoFuel g p q = tt
follow_uncut (Lacks r) g p q = tt
follow_uncut Off g p q = p

spend_uncut : (n : ℕ) (f : ℕ → Flow) → ((m : ℕ) → UncutFlow (f m)) → UncutFlow (spend n f)
spend_uncut zero f p = tt
spend_uncut (suc n) f p = p n

taken_uncut : (x : Answer) (f : Replayed → ℕ → Flow) → IsUncut x → ((t : Replayed) (m : ℕ) → UncutFlow (f t m)) → UncutFlow (taken x f)
taken_uncut (Gave t m) f p q = q t m
taken_uncut TooLittle f p q = tt
taken_uncut (Without r) f p q = tt
taken_uncut Astray f p q = p

test_uncut : (o : Outcome Bool) (n : ℕ) (e : Progress) (f g : Flow) → UncutFlow f → UncutFlow g → UncutFlow (test o n e f g)
test_uncut (Faults r) n e f g p q = refl
test_uncut (Gives true) n e f g p q = p
test_uncut (Gives false) n e f g p q = q

take_uncut : (ps : List Planned) (a : Around) → IsUncutAround a → AllOf (Callable a.deep a.takes) ps → (n : ℕ) (e : Progress) → UncutFlow (take_calls ps a n e)
take_uncut [] a c t n e = tt
take_uncut (p ∷ ps) a c t n e = spend_uncut n _ (λ m. taken_uncut (a.call (next_label p e) m p.callee p.inputs) _
    (c.call (next_label p e) m p.callee p.inputs t.0.0 t.0.1) (λ r left. take_uncut ps a c t.1 left (with_call p (next_label p e) r e)))

stops_never : (a : Around) → IsUncutAround a → (n : ℕ) (e : Progress) → UncutFlow (stopped a n e)
stops_never a c n e = subst (λ (s : Option ℕ). UncutFlow (if is_stop s (length e.calls) then Ends Killed n e else Goes n e)) (sym c.stop) tt

make_uncut : (ps : List Planned) (a : Around) → IsUncutAround a → AllOf (Callable a.deep a.takes) ps → (n : ℕ) (e : Progress) → UncutFlow (make_calls ps a n e)
make_uncut [] a c t n e = tt
make_uncut (p ∷ ps) a c t n e = follow_uncut (take_calls (p ∷ ps) a n e) (stopped a) (take_uncut (p ∷ ps) a c t n e) (stops_never a c)

after_uncut : (s : Stepped) (a : Around) → IsUncutAround a → Fine a.deep a.takes s → (n : ℕ) (e : Progress) → UncutFlow (after s a n e)
after_uncut (Stops s env outs) a c t n e = t
after_uncut (Makes ps env outs) a c t n e = make_uncut ps a c t n (record { env = env; outputs = outs; calls = e.calls })

all_uncut : (is : List Instr) → AllOf (λ i. Uncut (exec i)) is → Uncut (run is)
all_uncut [] t a c n e = tt
all_uncut (i ∷ is) t a c n e = follow_uncut (exec i a n e) (run is a) (t.0 a c n e) (λ m d. all_uncut is t.1 a c m d)

turns_uncut : (most : ℕ) (x : Expr) (body : Act) → Uncut body → Uncut (turns most x body)
turns_uncut zero x body t a c n e = test_uncut (holds x e.env) n e NoFuel (Goes n e) tt tt
turns_uncut (suc most) x body t a c n e = test_uncut (holds x e.env) n e _ (Goes n e)
    (spend_uncut n _ (λ m. follow_uncut (body a m e) (turns most x body a) (t a c m e) (λ k d. turns_uncut most x body t a c k d)))
    tt

value_picked : (o : Outcome (List Instr)) (a : Around) (n : ℕ) (e : Progress) → Picks (λ js. Uncut (run js)) o → IsUncutAround a
    → UncutFlow (by_value (mapped run o) n e (λ x. x a n e))
value_picked (Gives js) a n e t c = t a c n e
value_picked (Faults r) a n e t c = refl

blocks_uncut : (arms : List Arm) → AllOf (λ x. Uncut (run_block (arm_block x))) arms → AllOf (λ x. Uncut (run (instrs (arm_block x)))) arms
blocks_uncut [] t = tt
blocks_uncut (x ∷ xs) t = (subst Uncut (block_is (arm_block x)) t.0, blocks_uncut xs t.1)

else_uncut : (other : Option Block) → OptionOf (λ b. Uncut (run_block b)) other → Uncut (run (else_list other))
else_uncut None t = λ a c n e. tt
else_uncut (Some b) t = subst Uncut (block_is b) t

opened_uncut : (y : Instr-F Instr Arm Block) → Inside (λ b. Uncut (run_block b)) y → Uncut (opened y)
opened_uncut (Instr-F.Step s) t a c n e = after_uncut (statements a.deep a.takes a.kinds s.stmts [] e.env e.outputs) a c
    (fine a.deep a.takes a.kinds s.stmts [] e.env e.outputs tt) n e
opened_uncut (Instr-F.If at arms other) t a c n e =
    subst (λ (o : Outcome Act). UncutFlow (by_value o n e (λ x. x a n e))) (sym (picked_lists arms other e.env))
    (value_picked (picked (map arm_list arms) (else_list other) e.env) a n e
    (picks (λ js. Uncut (run js)) arms other e.env (blocks_uncut arms t.0) (else_uncut other t.1)) c)
opened_uncut (Instr-F.While at x b) t a c n e = turns_uncut n x (run_block b) t a c n e
opened_uncut (Instr-F.Return at code) t a c n e = refl

exec_uncut : (i : Instr) → Inside (λ b. Uncut (run_block b)) (out-Instr i) → Uncut (exec i)
exec_uncut i t = subst Uncut (sym (exec_is i)) (opened_uncut (out-Instr i) t)

many_uncut : (b : Block) → AllOf (λ i. Uncut (exec i)) (instrs b) → Uncut (run_block b)
many_uncut b t = subst Uncut (sym (block_is b)) (all_uncut (instrs b) t)

pub run_uncut : (is : List Instr) → Uncut (run is)
run_uncut is = all_uncut is (every_list (λ i. Uncut (exec i)) (λ b. Uncut (run_block b)) exec_uncut many_uncut is)

-- ---- the meaning of a definition

of_state : (f : Tree-F Tree) → is_killed f.state ≡ false → is_killed (out-Tree (roll-Tree f)).state ≡ false
of_state f h = ap (λ (g : Tree-F Tree). is_killed g.state) (out-roll-Tree f) ∙ h

end_uncut : (name : List ℕ) (s : ProcessState) (n : ℕ) (e : Progress) → is_killed s ≡ false → IsUncut (end None name s n e)
end_uncut name s n e h = of_state (record { definition = name; state = s; outputs = kept s e.outputs; calls = map its_tree e.calls }) h

ended_uncut : (name : List ℕ) (ports : List Port) (f : Flow) → UncutFlow f → IsUncut (ended None name ports f)
ended_uncut name ports (Goes m e) p = end_uncut name (judged ports (Finished 0) e.outputs) m e refl
ended_uncut name ports (Ends s m e) p = end_uncut name (judged ports s e.outputs) m e (judged_late ports s e.outputs p)
ended_uncut name ports NoFuel p = tt
ended_uncut name ports (Lacks q) p = tt
ended_uncut name ports Off p = p

within_uncut : (ports : List Port) (a : Around) → IsUncutAround a → IsUncutAround (within ports None a)
within_uncut ports a c = record { stop = refl; call = c.call }

leaf_uncut : (name : List ℕ) (p : Parsed) (n : ℕ) (asked : _) → is_killed p.state ≡ false → IsUncut (Gave (leaf name p asked) n)
leaf_uncut name p n asked h = of_state (record { definition = name; state = p.state; outputs = p.outputs; calls = [] }) h

concluded_uncut : (ports : List Port) (kept : Values) (o : Outcome End) → is_killed (concluded ports kept o).state ≡ false
concluded_uncut ports kept (Gives end) = refl
concluded_uncut ports kept (Faults r) = refl

result_uncut : (name : List ℕ) (parse : JobResult → Parsed) (q : Request) (r : Option JobResult) (n : ℕ) → ((j : JobResult) → is_killed (parse j).state ≡ false)
    → IsUncut (by_result name parse q r n)
result_uncut name parse q None n h = tt
result_uncut name parse q (Some j) n h = leaf_uncut name (parse j) n (([], q) ∷ []) (h j)

job_uncut : (name : List ℕ) (o : Outcome Request) (parse : JobResult → Parsed) (f : Request → Option JobResult) (n : ℕ) → ((j : JobResult) → is_killed (parse j).state ≡ false)
    → IsUncut (job name o parse f n)
job_uncut name (Faults r) parse f n h = leaf_uncut name (excepted r []) n [] refl
job_uncut name (Gives q) parse f n h = result_uncut name parse q (f q) n h

whole_uncut : (d : Definition) (a : Around) (f : Request → Option JobResult) → IsUncutAround a → (n : ℕ) (name : List ℕ) (inputs : Values)
    → IsUncut (whole (Some d) a f n name inputs)
whole_uncut (definition.Function d) a f c n name inputs = leaf_uncut name (calculated d inputs) n [] (concluded_uncut d.head.outputs [] (run_rules d.head.outputs d.rules (env_of inputs) []))
whole_uncut (definition.Job j) a f c n name inputs = job_uncut name (request j inputs) (parsed j inputs) f n
    (λ r. concluded_uncut j.head.outputs (retrieved r) (run_rules j.head.outputs j.parse (parse_env inputs r) (retrieved r)))
whole_uncut (definition.Chain k) a f c n name inputs = ended_uncut name k.head.outputs _ (run_uncut (instrs k.outline) (within k.head.outputs None a) (within_uncut k.head.outputs a c) n (first inputs))

known : (d : Option Definition) (inputs : Values) (a : Around) (f : Request → Option JobResult) → IsUncutAround a → (n : ℕ) (name : List ℕ) → takes_inputs d inputs ≡ true
    → IsUncut (whole d a f n name inputs)
known None inputs a f c n name h = absurd (no h)
  where
    no : false ≡ true → ⊥
    no e = cc
known (Some d) inputs a f c n name h = whole_uncut d a f c n name inputs

deepest_uncut : (library : List Definition) → IsUncutAround (surrounding library None)
deepest_uncut library = record { stop = refl; call = λ l n name inputs h. absurd (no h) }
  where
    no : true ≡ false → ⊥
    no e = cc

called_uncut : (levels : ℕ) (library : List Definition) (table : Table) (n : ℕ) (name : List ℕ) (inputs : Values) → takes_of library name inputs ≡ true
    → IsUncut (meaning levels library table no_kills n name inputs)
called_uncut zero library table n name inputs h = known (definition_named name library) inputs (surrounding library None) (table []) (deepest_uncut library) n name h
called_uncut (suc levels) library table n name inputs h = known (definition_named name library) inputs _ (table [])
    (record { stop = refl; call = λ l m x y d t. called_uncut levels library (under l table) m x y t }) n name h

-- the callee of a call takes its inputs, and so is in the library
around_uncut : (levels : ℕ) (library : List Definition) (table : Table) → IsUncutAround (around levels library table no_kills)
around_uncut zero library table = deepest_uncut library
around_uncut (suc levels) library table = record { stop = refl; call = λ l m x y d t. called_uncut levels library (under l table) m x y t }

pub meaning_uncut : (levels : ℕ) (library : List Definition) (table : Table) (n : ℕ) (name : List ℕ) (inputs : Values) (d : Definition) → definition_named name library ≡ Some d
    → IsUncut (meaning levels library table no_kills n name inputs)
meaning_uncut zero library table n name inputs d h =
    subst (λ (o : Option Definition). IsUncut (whole o (surrounding library None) (table []) n name inputs)) (sym h) (whole_uncut d (surrounding library None) (table []) (around_uncut zero library table) n name inputs)
meaning_uncut (suc levels) library table n name inputs d h =
    subst (λ (o : Option Definition). IsUncut (whole o (around (suc levels) library table no_kills) (table []) n name inputs)) (sym h)
    (whole_uncut d (around (suc levels) library table no_kills) (table []) (around_uncut (suc levels) library table) n name inputs)
