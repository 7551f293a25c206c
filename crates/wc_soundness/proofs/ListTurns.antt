-- A ready process has a list of changes, with each answer that fits.
use Rattle.std.proofs.Common.{inl, inr, ◌≡◌, ◌⊎◌, ℕ, Bool, true, false, List, Option, Some, None, refl, sym, ap, subst, ◌∙◌}
use Rattle.std.specs.Prelude.{not, option_map, option_and_then}
use Rattle.wc_value.specs.declared.process.ProcessState.{ProcessState}
use Rattle.wc_value.specs.declared.process.ProcessState.TheVariants as state
use Rattle.wc_value.specs.declared.process.Request.{Request}
use Rattle.wc_syntax.specs.declared.definition.Chain.{Chain}
use Rattle.wc_syntax.specs.declared.definition.Definition.{Definition}
use Rattle.wc_syntax.specs.declared.definition.Definition.TheVariants as definition
use Rattle.wc_syntax.specs.declared.definition.Function.{Function}
use Rattle.wc_syntax.specs.declared.definition.Job.{Job}
use Rattle.wc_state.specs.Checkpoint.{first}
use Rattle.wc_state.specs.declared.environment.Env.{Env}
use Rattle.wc_state.specs.declared.environment.Item.{Item}
use Rattle.wc_state.specs.declared.record.Checkpoint.{Checkpoint}
use Rattle.wc_state.specs.declared.record.JobPart.{JobPart}
use Rattle.wc_state.specs.declared.record.Part.{Part}
use Rattle.wc_state.specs.declared.record.Part.TheVariants as part
use Rattle.wc_state.specs.declared.record.ProcessKind.{ProcessKind}
use Rattle.wc_state.specs.declared.record.ProcessKind.TheVariants as kind
use Rattle.wc_state.specs.declared.record.ProcessRecord.{ProcessRecord}
use Rattle.wc_expression.specs.declared.outcome.Outcome.{Outcome}
use Rattle.wc_expression.specs.declared.outcome.Outcome.TheVariants.{Gives, Faults}
use Rattle.wc_semantics.specs.Requests.{request}
use Rattle.wc_world.specs.World.{World}
use Rattle.wc_world.specs.declared.change.Change.{Change}
use Rattle.wc_world.specs.Consistent.{IsConsistent, Stands}
use Rattle.wc_world.specs.Fits.{chain_runs, is_fresh, is_of_kind, part_fits, waits}
use Rattle.wc_world.specs.Records.{find_record, is_calculation, library_at}
use Rattle.wc_world.specs.Trees.{context_of, environment_at, inputs_of, items_of}
use Rattle.wc_world.proofs.FoundRecords.{found_holds, right}
use Rattle.wc_world.proofs.ReachedLists.{found_node}
use Rattle.wc_world.proofs.RecordedEnvironments.{no_context}
use Rattle.wc_machine.specs.declared.answer.TaskAnswer.{TaskAnswer}
use Rattle.wc_machine.specs.declared.answer.TaskAnswer.TheVariants as answer
use Rattle.wc_machine.specs.Questions.{fits, is_nothing, need_at, with_request}
use Rattle.wc_machine.specs.Advances.{advance}
use Rattle.wc_machine.specs.Calls.{advanced}
use Rattle.wc_machine.specs.Ends.{TakesSource, ends, come_to}
use Rattle.wc_machine.specs.Readiness.{may_go}
use Rattle.wc_machine.specs.Recorded.{its_definition, recorded_inputs, request_by}
use Rattle.wc_machine.specs.Turns.{StandsAt, TurnGives, calculates, clones, begins, excepts, gives_up, moves, parses, advances, binds}
use Rattle.wc_machine.proofs.FittingAnswers.{fitting_answers_lead}
use Rattle.wc_soundness.proofs.KilledStanding.{library_of}
use Rattle.wc_turn_laws.proofs.OneList.{one_list}
use Rattle.wc_soundness.specs.ListLaws.{TurnsHaveChanges}
use Rattle.wc_soundness.proofs.LowestSources.{sources_are_there}

-- ---- kinds, definitions and parts

abbrev Runs : ProcessKind → Definition → Type 0
Runs kind.Function d = (f : Function) × (d ≡ definition.Function f)
Runs kind.Job d = (j : Job) × (d ≡ definition.Job j)
Runs kind.Chain d = (k : Chain) × (d ≡ definition.Chain k)

runs_by : (k : ProcessKind) (d : Definition) → is_of_kind k (Some d) ≡ true → Runs k d
runs_by kind.Function (definition.Function f) h = (f, refl)
runs_by kind.Function (definition.Job j) h = absurd (cc h)
runs_by kind.Function (definition.Chain c) h = absurd (cc h)
runs_by kind.Job (definition.Function f) h = absurd (cc h)
runs_by kind.Job (definition.Job j) h = (j, refl)
runs_by kind.Job (definition.Chain c) h = absurd (cc h)
runs_by kind.Chain (definition.Function f) h = absurd (cc h)
runs_by kind.Chain (definition.Job j) h = absurd (cc h)
runs_by kind.Chain (definition.Chain c) h = (c, refl)

defined_by : (k : ProcessKind) (o : Option Definition) → is_of_kind k o ≡ true → (d : Definition) × (o ≡ Some d) × Runs k d
defined_by k None h = absurd (cc h)
defined_by k (Some d) h = (d, refl, runs_by k d h)

fresh_by : (p : Part) → is_fresh p ≡ true → p ≡ part.Fresh
fresh_by part.Fresh h = refl
fresh_by (part.Chain c) h = absurd (cc h)
fresh_by (part.Job j) h = absurd (cc h)
fresh_by part.Over h = absurd (cc h)

running_by : (k : ProcessKind) (p : Part) → chain_runs k p ≡ true → (k ≡ kind.Chain) × ((c : Checkpoint) × (p ≡ part.Chain c))
running_by kind.Chain (part.Chain c) h = (refl, (c, refl))
running_by kind.Chain part.Fresh h = absurd (cc h)
running_by kind.Chain (part.Job j) h = absurd (cc h)
running_by kind.Chain part.Over h = absurd (cc h)
running_by kind.Function p h = absurd (cc h)
running_by kind.Job p h = absurd (cc h)

abbrev Waiting : ProcessKind → Part → Type 0
Waiting k p = ((k ≡ kind.Chain) × ((c : Checkpoint) × (p ≡ part.Chain c))) ⊎ ((k ≡ kind.Job) × ((j : JobPart) × (p ≡ part.Job j)))

waiting_by : (k : ProcessKind) (p : Part) → waits k p ≡ true → Waiting k p
waiting_by kind.Chain (part.Chain c) h = inl (refl, (c, refl))
waiting_by kind.Job (part.Job j) h = inr (refl, (j, refl))
waiting_by kind.Chain part.Fresh h = absurd (cc h)
waiting_by kind.Chain (part.Job j) h = absurd (cc h)
waiting_by kind.Chain part.Over h = absurd (cc h)
waiting_by kind.Job part.Fresh h = absurd (cc h)
waiting_by kind.Job (part.Chain c) h = absurd (cc h)
waiting_by kind.Job part.Over h = absurd (cc h)
waiting_by kind.Function p h = absurd (cc h)

nothing_by : (a : TaskAnswer) → is_nothing a ≡ true → a ≡ answer.Nothing
nothing_by answer.Nothing h = refl
nothing_by answer.Failed h = absurd (cc h)
nothing_by answer.Done h = absurd (cc h)
nothing_by answer.Running h = absurd (cc h)
nothing_by (answer.Result r) h = absurd (cc h)

-- ---- a turn

module _ (poll now : ℕ) (w : World) (r : ProcessRecord) (c : IsConsistent w) (found : find_record r.node w.records ≡ Some r) where
  stands : Stands w r
  stands = found_holds (Stands w) r.node w.records r c.records found

  abbrev Has : TaskAnswer → Type 0
  Has a = (cs : List Change) × TurnGives poll now w r a cs

  -- ---- what a created process does

  clones_of : (source : ℕ) → is_calculation r.kind ≡ true → r.state ≡ state.Created → TakesSource w r (Some source) → Has answer.Nothing
  clones_of source calc created takes = by r.caching refl
    where
      by : (b : Bool) → r.caching ≡ b → Has answer.Nothing
      by true is =
          let l = takes.on is in
          let q : ProcessRecord = l.0.0 in
          let number : q.node ≡ source = found_node source w.records q l.0.1 in (
            ends w r (come_to w q) (Some q.node) None,
            clones q calc created (subst (λ (n : ℕ). TakesSource w r (Some n)) (sym number) takes) (ap (λ (n : ℕ). find_record n w.records) number ∙ l.0.1),
          )
      by false is = absurd (let none = takes.off is in cc none)

  function_turn : (f : Function) → its_definition w r ≡ Some (definition.Function f) → is_calculation r.kind ≡ true → r.state ≡ state.Created
      → (source : Option ℕ) → TakesSource w r source → Has answer.Nothing
  function_turn f d calc created None takes = (_, calculates f d created takes)
  function_turn f d calc created (Some source) takes = clones_of source calc created takes

  new_job : (j : Job) → its_definition w r ≡ Some (definition.Job j) → r.state ≡ state.Created → TakesSource w r None → (o : Outcome Request)
      → request j (recorded_inputs w r.node) ≡ o → Has answer.Nothing
  new_job j d created takes (Gives q) asked = (_, begins j q d created takes asked)
  new_job j d created takes (Faults reason) asked = (_, excepts j reason d created takes asked)

  job_turn : (j : Job) → its_definition w r ≡ Some (definition.Job j) → is_calculation r.kind ≡ true → r.state ≡ state.Created
      → (source : Option ℕ) → TakesSource w r source → Has answer.Nothing
  job_turn j d calc created None takes = new_job j d created takes (request j (recorded_inputs w r.node)) refl
  job_turn j d calc created (Some source) takes = clones_of source calc created takes

  -- ---- what a chain does

  abbrev with_items : Option (List (List ℕ × Item)) → Option Env
  with_items o = option_map (λ ctx. record { inputs = inputs_of w r.node; ctx = ctx }) o

  environment : (e : Env) × (environment_at w r.node ≡ Some e)
  environment = at (items_of w (context_of r.part)) refl
    where
      at : (o : Option (List (List ℕ × Item))) → items_of w (context_of r.part) ≡ o → (e : Env) × (environment_at w r.node ≡ Some e)
      at None is = absurd (no_context w r.node r c (sym found) (sym is))
      at (Some ctx) is = (
        record { inputs = inputs_of w r.node; ctx = ctx },
        ap (option_and_then (λ (q : ProcessRecord). with_items (items_of w (context_of q.part)))) found ∙ ap with_items is,
      )

  chain_turn : (k : Chain) (d : Checkpoint) → its_definition w r ≡ Some (definition.Chain k) → StandsAt r.state r.part d → Has answer.Nothing
  chain_turn k d defined at =
      let l = library_of (library_at w.libraries r.library) r.definition (definition.Chain k) defined in
      let e = environment in
      (advanced w r k.head.outputs (advance l.0 k r.depth e.0 d), advances k l.0 d e.0 defined l.1 at e.1)

  -- ---- by the state

  created_turn : r.state ≡ state.Created → r.part ≡ part.Fresh → (k : ProcessKind) → r.kind ≡ k → (d : Definition) → its_definition w r ≡ Some d → Runs k d → Has answer.Nothing
  created_turn created fresh kind.Function is d defined runs =
      let s = sources_are_there w r c in
      function_turn runs.0 (defined ∙ ap (λ (x : Definition). Some x) runs.1) (ap is_calculation is) created s.0 s.1
  created_turn created fresh kind.Job is d defined runs =
      let s = sources_are_there w r c in
      job_turn runs.0 (defined ∙ ap (λ (x : Definition). Some x) runs.1) (ap is_calculation is) created s.0 s.1
  created_turn created fresh kind.Chain is d defined runs =
      chain_turn runs.0 first (defined ∙ ap (λ (x : Definition). Some x) runs.1)
      (subst (λ (s : ProcessState). StandsAt s r.part first) (sym created) (subst (λ (p : Part). StandsAt state.Created p first) (sym fresh) refl))

  task_turn : (j : Job) (p : JobPart) (a : TaskAnswer) → its_definition w r ≡ Some (definition.Job j) → r.part ≡ part.Job p → (o : Outcome Request)
      → request j (recorded_inputs w r.node) ≡ o → fits (with_request p.task (Some o)) a ≡ true → Has a
  task_turn j p a defined is (Faults reason) asked h =
      subst Has (sym (nothing_by a h)) (_, gives_up j p reason defined is asked)
  task_turn j p a defined is (Gives q) asked h = elim ((fitting_answers_lead p a now poll).0 h) [
    | inl m ↦ (_, moves j p q a m.0 defined is asked m.1)
    | inr g ↦ subst Has (sym g.1.1) (_, parses j p q g.1.0 defined is asked g.0)
  ]

  turn_by : (s : ProcessState) (p : Part) (a : TaskAnswer) → r.state ≡ s → r.part ≡ p → part_fits r.kind s p ≡ true → may_go w now s p ≡ true
      → fits (need_at s p (request_by (its_definition w r) (recorded_inputs w r.node))) a ≡ true → Has a
  turn_by state.Created p a is its fit may h =
      let d = defined_by r.kind (its_definition w r) stands.defined in
      subst Has (sym (nothing_by a h)) (created_turn is (its ∙ fresh_by p fit) r.kind refl d.0 d.1 d.2)
  turn_by state.Running p a is its fit may h =
      let run = running_by r.kind p fit in
      let d = defined_by r.kind (its_definition w r) stands.defined in
      let k : Runs kind.Chain d.0 = subst (λ (x : ProcessKind). Runs x d.0) run.0 d.2 in
      let here : r.part ≡ part.Chain run.1.0 = its ∙ run.1.1 in
      subst Has (sym (nothing_by a h))
      (chain_turn k.0 run.1.0 (d.1 ∙ ap (λ (x : Definition). Some x) k.1)
      (subst (λ (s : ProcessState). StandsAt s r.part run.1.0) (sym is) (subst (λ (q : Part). StandsAt state.Running q run.1.0) (sym here) refl)))
  turn_by state.Waiting p a is its fit may h = elim (waiting_by r.kind p fit) [
    | inl chain ↦
        let d = defined_by r.kind (its_definition w r) stands.defined in
        let k : Runs kind.Chain d.0 = subst (λ (x : ProcessKind). Runs x d.0) chain.0 d.2 in
        let asked : fits (need_at state.Waiting (part.Chain chain.1.0) (request_by (its_definition w r) (recorded_inputs w r.node))) a ≡ true
        = subst (λ (q : Part). fits (need_at state.Waiting q (request_by (its_definition w r) (recorded_inputs w r.node))) a ≡ true) chain.1.1 h in
        subst Has (sym (nothing_by a asked)) (_, binds k.0 chain.1.0 (d.1 ∙ ap (λ (x : Definition). Some x) k.1) is (its ∙ chain.1.1))
    | inr job ↦
        let d = defined_by r.kind (its_definition w r) stands.defined in
        let j : Runs kind.Job d.0 = subst (λ (x : ProcessKind). Runs x d.0) job.0 d.2 in
        let defined : its_definition w r ≡ Some (definition.Job j.0) = d.1 ∙ ap (λ (x : Definition). Some x) j.1 in
        let asked : fits (need_at state.Waiting (part.Job job.1.0) (request_by (Some (definition.Job j.0)) (recorded_inputs w r.node))) a ≡ true
        = (λ i. fits (need_at state.Waiting (sym job.1.1 i) (request_by (sym defined i) (recorded_inputs w r.node))) a) ∙ h in
        task_turn j.0 job.1.0 a defined (its ∙ job.1.1) (request j.0 (recorded_inputs w r.node)) refl asked
  ]
  turn_by (state.Finished n) p a is its fit may h = absurd (cc may)
  turn_by (state.Excepted x) p a is its fit may h = absurd (cc may)
  turn_by state.Killed p a is its fit may h = absurd (cc may)

pub turns_have_changes : TurnsHaveChanges
turns_have_changes poll now w r a c found ready h =
    let s : Stands w r = found_holds (Stands w) r.node w.records r c.records found in
    let may : may_go w now r.state r.part ≡ true = right (not r.paused) (may_go w now r.state r.part) ready in
    let t = turn_by poll now w r c found r.state r.part a refl refl s.part may h in
    (t.0, record { gives = t.1; only = λ ds g. one_list poll now w r a ds t.0 c found g t.1 })
