-- What waiting jobs come to.
use Rattle.std.proofs.Common.{◌≡◌, ℕ, true, [], Option, Some, None, refl, sym, ap, subst, ◌∙◌}
use Rattle.wc_value.specs.declared.process.JobResult.{JobResult}
use Rattle.wc_value.specs.declared.process.ProcessState.{ProcessState}
use Rattle.wc_value.specs.declared.process.ProcessState.TheVariants as state
use Rattle.wc_value.specs.declared.process.Reason.{Reason}
use Rattle.wc_value.specs.declared.process.Request.{Request}
use Rattle.wc_syntax.specs.Bare.{bare_job}
use Rattle.wc_syntax.specs.declared.definition.Chain.{Chain}
use Rattle.wc_syntax.specs.declared.definition.Definition.{Definition}
use Rattle.wc_syntax.specs.declared.definition.Definition.TheVariants as definition
use Rattle.wc_syntax.specs.declared.definition.Function.{Function}
use Rattle.wc_syntax.specs.declared.definition.Job.{Job}
use Rattle.wc_expression.specs.declared.outcome.Outcome.{Outcome}
use Rattle.wc_expression.specs.declared.outcome.Outcome.TheVariants.{Gives, Faults}
use Rattle.wc_semantics.specs.declared.outcomes.Parsed.{Parsed}
use Rattle.wc_semantics.specs.Outcomes.{excepted}
use Rattle.wc_semantics.specs.Requests.{request}
use Rattle.wc_semantics.proofs.BareCalculations.{parsed_bare, request_bare}
use Rattle.wc_state.specs.declared.record.JobPart.{JobPart}
use Rattle.wc_state.specs.declared.record.Part.{Part}
use Rattle.wc_state.specs.declared.record.Part.TheVariants as part
use Rattle.wc_state.specs.declared.record.ProcessKind.{ProcessKind}
use Rattle.wc_state.specs.declared.record.ProcessKind.TheVariants as kind
use Rattle.wc_state.specs.declared.record.ProcessRecord.{ProcessRecord}
use Rattle.wc_state.specs.declared.record.Task.{Task}
use Rattle.wc_state.specs.declared.record.Task.TheVariants as task
use Rattle.wc_world.specs.World.{World}
use Rattle.wc_world.specs.Consistent.{IsConsistent, Stands}
use Rattle.wc_world.specs.Fits.{is_of_kind, part_fits}
use Rattle.wc_world.proofs.FoundRecords.{found_holds}
use Rattle.wc_machine.specs.declared.answer.TaskAnswer.{TaskAnswer}
use Rattle.wc_machine.specs.declared.answer.TaskAnswer.TheVariants as answer
use Rattle.wc_machine.specs.Questions.{Need, fits, fits_task, need, need_at, with_request}
use Rattle.wc_machine.specs.Ends.{ends}
use Rattle.wc_machine.specs.Recorded.{its_definition, recorded_inputs, recorded_request, request_by}
use Rattle.wc_machine.specs.Turns.{TurnGives, gives_up, moves, parses}
use Rattle.wc_calculation_turns.specs.Steps.{moved}
use Rattle.wc_calculation_turns.specs.declared.courses.Course.{Course}
use Rattle.wc_calculation_turns.specs.Courses.{HasMoved, LeadsOn, course_changes, own_end}
use Rattle.wc_calculation_turns.specs.Waits.{MayGoOn, task_of}
use Rattle.wc_calculation_turns.proofs.Ready.{quiet}

-- ---- jobs that wait

part_is : (x : Part) (p : JobPart) → task_of x ≡ Some p → x ≡ part.Job p
part_is part.Fresh p e = absurd (cc)
part_is (part.Chain c) p e = absurd (cc)
part_is (part.Job q) p e = let same : q ≡ p = cc in ap (λ (y : JobPart). part.Job y) same
part_is part.Over p e = absurd (cc)

-- what waits for a task is a job, and is waiting
record Waits (k : ProcessKind) (s : ProcessState) : Type 0 where
  kind : k ≡ kind.Job
  state : s ≡ state.Waiting

job_waits : (k : ProcessKind) (s : ProcessState) (p : JobPart) → part_fits k s (part.Job p) ≡ true → Waits k s
job_waits k state.Created p h = absurd (cc)
job_waits kind.Function state.Running p h = absurd (cc)
job_waits kind.Job state.Running p h = absurd (cc)
job_waits kind.Chain state.Running p h = absurd (cc)
job_waits kind.Function state.Waiting p h = absurd (cc)
job_waits kind.Job state.Waiting p h = record { kind = refl; state = refl }
job_waits kind.Chain state.Waiting p h = absurd (cc)
job_waits k (state.Finished n) p h = absurd (cc)
job_waits k (state.Excepted e) p h = absurd (cc)
job_waits k state.Killed p h = absurd (cc)

retrieves : (t : Task) (x : JobResult) → fits_task t (answer.Result x) ≡ true → t ≡ task.Retrieve
retrieves task.Upload x h = absurd (cc)
retrieves task.Submit x h = absurd (cc)
retrieves task.Update x h = absurd (cc)
retrieves task.Retrieve x h = refl

module _ (w : World) (r : ProcessRecord) (p : JobPart) (go : MayGoOn w r p) (consistent : IsConsistent w) where
  stands : Stands w r
  stands = found_holds (Stands w) r.node w.records r consistent.records go.found

  is_part : r.part ≡ part.Job p
  is_part = part_is r.part p go.waits

  waits : Waits r.kind r.state
  waits = job_waits r.kind r.state p (ap (part_fits r.kind r.state) (sym is_part) ∙ stands.part)

  defined : is_of_kind kind.Job (its_definition w r) ≡ true
  defined = ap (λ (k : ProcessKind). is_of_kind k (its_definition w r)) (sym waits.kind) ∙ stands.defined

  pub runs_something : its_definition w r ≡ None → ⊥
  runs_something d = let no = ap (is_of_kind kind.Job) (sym d) ∙ defined in absurd (cc)

  pub runs_no_function : (f : Function) → its_definition w r ≡ Some (definition.Function f) → ⊥
  runs_no_function f d = let no = ap (is_of_kind kind.Job) (sym d) ∙ defined in absurd (cc)

  pub runs_no_chain : (c : Chain) → its_definition w r ≡ Some (definition.Chain c) → ⊥
  runs_no_chain c d = let no = ap (is_of_kind kind.Job) (sym d) ∙ defined in absurd (cc)

  module _ (j : Job) (d : its_definition w r ≡ Some (definition.Job (bare_job j))) (a : TaskAnswer) (fit : fits (need w r) a ≡ true) (poll now : ℕ) where
    asked : (o : Outcome Request) → request j (recorded_inputs w r.node) ≡ o → need w r ≡ with_request p.task (Some o)
    asked o e =
        let is : recorded_request w r ≡ Some o
        = ap (λ (x : Option Definition). request_by x (recorded_inputs w r.node)) d ∙ ap (λ (x : Outcome Request). Some x) (request_bare j (recorded_inputs w r.node) ∙ e) in
        (λ i. need_at (waits.state i) (is_part i) (is i))

    pub task_fits : (q : Request) → request j (recorded_inputs w r.node) ≡ Gives q → fits_task p.task a ≡ true
    task_fits q e = ap (λ (n : Need). fits n a) (sym (asked (Gives q) e)) ∙ fit

    pub gave_up : (reason : Reason) (c : Course) → request j (recorded_inputs w r.node) ≡ Faults reason → c ≡ own_end (excepted reason []) → TurnGives poll now w r a (course_changes w r c)
    gave_up reason c e is =
        let none : a ≡ answer.Nothing = quiet a (ap (λ (n : Need). fits n a) (sym (asked (Faults reason) e)) ∙ fit) in
        subst (λ (x : Course). TurnGives poll now w r a (course_changes w r x)) (sym is)
        (subst (λ (x : TaskAnswer). TurnGives poll now w r x (ends w r (excepted reason []) None None)) (sym none)
        (gives_up (bare_job j) p reason d is_part (request_bare j (recorded_inputs w r.node) ∙ e)))

    module _ (q : Request) (e : request j (recorded_inputs w r.node) ≡ Gives q) where
      asks : request (bare_job j) (recorded_inputs w r.node) ≡ Gives q
      asks = request_bare j (recorded_inputs w r.node) ∙ e

      has_moved : (b : TaskAnswer) (c : Course) → HasMoved p b now poll c → TurnGives poll now w r b (course_changes w r c)
      has_moved b c h =
          subst (λ (x : Course). TurnGives poll now w r b (course_changes w r x)) (sym h.1)
          (moves (bare_job j) p q b (moved h.0) d is_part asks h.2)

      leads : (b : TaskAnswer) (c : Course) → fits_task p.task b ≡ true → LeadsOn j (recorded_inputs w r.node) p now poll b c → TurnGives poll now w r b (course_changes w r c)
      leads answer.Nothing c f h = absurd h
      leads answer.Failed c f h = has_moved answer.Failed c h
      leads answer.Running c f h = has_moved answer.Running c h
      leads answer.Done c f h = has_moved answer.Done c h
      leads (answer.Result x) c f h =
          subst (λ (y : Course). TurnGives poll now w r (answer.Result x) (course_changes w r y)) (sym h)
          (subst (λ (y : Parsed). TurnGives poll now w r (answer.Result x) (ends w r y None (Some x.code))) (parsed_bare j (recorded_inputs w r.node) x)
          (parses (bare_job j) p q x d is_part asks (retrieves p.task x f)))

      pub led_on : (c : Course) → LeadsOn j (recorded_inputs w r.node) p now poll a c → TurnGives poll now w r a (course_changes w r c)
      led_on c h = leads a c (task_fits q e) h
