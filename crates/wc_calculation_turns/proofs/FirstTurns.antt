-- What calculations that start come to.
use Rattle.std.proofs.Common.{◌≡◌, ℕ, suc, List, Bool, true, false, Option, Some, None, refl, sym, ap, subst, ◌∙◌}
use Rattle.std.specs.Prelude.{IfSome, option_and_then, option_map}
use Rattle.wc_value.specs.declared.process.Request.{Request}
use Rattle.wc_value.specs.declared.process.Tree.{Tree, out-Tree, out-roll-Tree}
use Rattle.wc_syntax.specs.Bare.{bare_function, bare_job}
use Rattle.wc_syntax.specs.declared.definition.Definition.TheVariants as definition
use Rattle.wc_syntax.specs.declared.definition.Chain.{Chain}
use Rattle.wc_syntax.specs.declared.definition.Function.{Function}
use Rattle.wc_syntax.specs.declared.definition.Job.{Job}
use Rattle.wc_expression.specs.declared.outcome.Outcome.{Outcome}
use Rattle.wc_expression.specs.declared.outcome.Outcome.TheVariants.{Gives, Faults}
use Rattle.wc_semantics.specs.declared.outcomes.Parsed.{Parsed}
use Rattle.wc_semantics.specs.Outcomes.{calculated}
use Rattle.wc_semantics.specs.Requests.{request}
use Rattle.wc_semantics.proofs.BareCalculations.{calculated_bare, request_bare}
use Rattle.wc_state.specs.declared.record.ProcessKind.{ProcessKind}
use Rattle.wc_state.specs.declared.record.ProcessKind.TheVariants as kind
use Rattle.wc_state.specs.declared.record.ProcessRecord.{ProcessRecord}
use Rattle.wc_world.specs.World.{World}
use Rattle.wc_world.specs.Consistent.{IsConsistent, Stands}
use Rattle.wc_world.specs.Fits.{is_of_kind}
use Rattle.wc_world.specs.Records.{find_record, is_calculation}
use Rattle.wc_world.specs.Trees.{Branch, branches, recorded_tree, tree_with, tree_within}
use Rattle.wc_world.proofs.FoundRecords.{found_holds}
use Rattle.wc_world.proofs.SnapshotLists.{number_of_found}
use Rattle.wc_cache.specs.CalculationLaws.{MayStart}
use Rattle.wc_machine.specs.declared.answer.TaskAnswer.TheVariants.{Nothing}
use Rattle.wc_machine.specs.Ends.{ends, TakesSource}
use Rattle.wc_machine.specs.Recorded.{its_definition, recorded_inputs, recorded_outputs}
use Rattle.wc_machine.specs.Turns.{TurnGives, calculates, clones, begins, excepts}
use Rattle.wc_calculation_turns.specs.declared.courses.Course.{Course}
use Rattle.wc_calculation_turns.specs.declared.courses.Course.TheVariants as course
use Rattle.wc_calculation_turns.specs.Courses.{begun, cloned, course_changes, own_end}

-- ---- recorded trees

record Keeps (w : World) (q : ProcessRecord) (pid : ℕ) (t : Tree) : Type 0 where
  state : (out-Tree t).state ≡ q.state
  outputs : (out-Tree t).outputs ≡ recorded_outputs w pid

-- a tree has the state and the outputs of its process
tree_keeps : (w : World) (q : ProcessRecord) (pid : ℕ) (bs : Option (List Branch)) (t : Tree) → option_map (tree_with q (recorded_outputs w pid)) bs ≡ Some t → Keeps w q pid t
tree_keeps w q pid None t h = absurd (cc)
tree_keeps w q pid (Some bs) t h =
    let same : tree_with q (recorded_outputs w pid) bs ≡ t = cc in
    let opens = out-roll-Tree (record { definition = q.definition; state = q.state; outputs = recorded_outputs w pid; calls = bs }) in
    record {
      state = ap (λ (x : Tree). (out-Tree x).state) (sym same) ∙ ap (λ x. x.state) opens;
      outputs = ap (λ (x : Tree). (out-Tree x).outputs) (sym same) ∙ ap (λ x. x.outputs) opens;
    }

keeps_within : (levels : ℕ) (w : World) (q : ProcessRecord) (pid : ℕ) (t : Tree) → find_record pid w.records ≡ Some q → tree_within (suc levels) w pid ≡ Some t → Keeps w q pid t
keeps_within levels w q pid t found h =
    let calls = branches (tree_within levels w) pid w.links in
    tree_keeps w q pid calls t (ap (option_and_then (λ (r : ProcessRecord). option_map (tree_with r (recorded_outputs w pid)) calls)) (sym found) ∙ h)

-- an end with what a recorded tree keeps is an end with the outcome of its process
pub clone_is : (w : World) (q : ProcessRecord) (source : ℕ) (t : Tree) → find_record source w.records ≡ Some q → recorded_tree w source ≡ Some t
    → course.Ends (record { parsed = record { state = (out-Tree t).state; outputs = (out-Tree t).outputs }; source = Some source; code = None }) ≡ cloned w q source
clone_is w q source t found h =
    let keeps = keeps_within 15 w q source t found h in
    let number : source ≡ q.node = sym (number_of_found source w.records q found) in
    let outputs : (out-Tree t).outputs ≡ recorded_outputs w q.node = keeps.outputs ∙ ap (recorded_outputs w) number in
    (λ i. course.Ends (record { parsed = record { state = keeps.state i; outputs = outputs i }; source = Some source; code = None }))

-- ---- sources

-- what holds of the process that is there
pub found_one : (P : ProcessRecord → Type 0) (o : Option ProcessRecord) (r : ProcessRecord) → o ≡ Some r → IfSome o P → P r
found_one P None r e h = absurd (cc)
found_one P (Some q) r e h = let same : q ≡ r = cc in subst P same h

-- a source is a process of the world
pub source_found : (w : World) (r : ProcessRecord) (source : ℕ) → TakesSource w r (Some source) → (q : ProcessRecord) × (find_record source w.records ≡ Some q)
source_found w r source takes = at r.caching refl
  where
    at : (b : Bool) → r.caching ≡ b → (q : ProcessRecord) × (find_record source w.records ≡ Some q)
    at true e = let lowest = takes.on e in (lowest.0.0, lowest.0.1)
    at false e = let none : Some source ≡ None = takes.off e in absurd (cc)

-- ---- definitions

-- what runs a chain is no calculation
chain_calls : (k : ProcessKind) (c : Chain) → is_of_kind k (Some (definition.Chain c)) ≡ true → is_calculation k ≡ false
chain_calls kind.Function c h = absurd (cc)
chain_calls kind.Job c h = absurd (cc)
chain_calls kind.Chain c h = refl

module _ (w : World) (r : ProcessRecord) (consistent : IsConsistent w) (starts : MayStart w r) where
  stands : Stands w r
  stands = found_holds (Stands w) r.node w.records r consistent.records starts.found

  pub runs_no_chain : (c : Chain) → its_definition w r ≡ Some (definition.Chain c) → ⊥
  runs_no_chain c d =
      let no : is_calculation r.kind ≡ false = chain_calls r.kind c (ap (is_of_kind r.kind) (sym d) ∙ stands.defined) in
      let yes = starts.calculates in absurd (cc)

  pub runs_something : its_definition w r ≡ None → ⊥
  runs_something d = let no : false ≡ true = ap (is_of_kind r.kind) (sym d) ∙ stands.defined in absurd (cc)

-- ---- first turns

module _ (w : World) (r : ProcessRecord) (starts : MayStart w r) where
  -- with any moment and interval these are the changes of its turn
  abbrev pub TurnsTo : Course → Type 0
  TurnsTo c = (poll now : ℕ) → TurnGives poll now w r Nothing (course_changes w r c)

  pub is_cloned : (q : ProcessRecord) (source : ℕ) (c : Course) → find_record source w.records ≡ Some q → TakesSource w r (Some source) → c ≡ cloned w q source → TurnsTo c
  is_cloned q source c found takes is poll now =
      let number : q.node ≡ source = number_of_found source w.records q found in
      let there : find_record q.node w.records ≡ Some q = subst (λ (n : ℕ). find_record n w.records ≡ Some q) (sym number) found in
      let taken : TakesSource w r (Some q.node) = subst (λ (n : ℕ). TakesSource w r (Some n)) (sym number) takes in
      subst (λ (x : Course). TurnGives poll now w r Nothing (course_changes w r x)) (sym is)
      (subst (λ (n : ℕ). TurnGives poll now w r Nothing (course_changes w r (cloned w q n))) number
      (clones q starts.calculates starts.created taken there))

  module _ (takes : TakesSource w r None) where
    pub is_calculated : (f : Function) (p : Parsed) (c : Course) → its_definition w r ≡ Some (definition.Function (bare_function f))
        → p ≡ calculated f (recorded_inputs w r.node) → c ≡ own_end p → TurnsTo c
    is_calculated f p c d is end poll now =
        subst (λ (x : Course). TurnGives poll now w r Nothing (course_changes w r x)) (sym end)
        (subst (λ (x : Parsed). TurnGives poll now w r Nothing (ends w r x None None)) (calculated_bare f (recorded_inputs w r.node) ∙ sym is)
        (calculates (bare_function f) d starts.created takes))

    begun_by : (j : Job) (o : Outcome Request) → its_definition w r ≡ Some (definition.Job (bare_job j)) → request j (recorded_inputs w r.node) ≡ o → TurnsTo (begun o)
    begun_by j (Gives q) d asked poll now = begins (bare_job j) q d starts.created takes (request_bare j (recorded_inputs w r.node) ∙ asked)
    begun_by j (Faults reason) d asked poll now = excepts (bare_job j) reason d starts.created takes (request_bare j (recorded_inputs w r.node) ∙ asked)

    pub is_begun : (j : Job) (c : Course) → its_definition w r ≡ Some (definition.Job (bare_job j)) → c ≡ begun (request j (recorded_inputs w r.node)) → TurnsTo c
    is_begun j c d is = subst TurnsTo (sym is) (begun_by j (request j (recorded_inputs w r.node)) d refl)
