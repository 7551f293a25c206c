-- Which answers lead on, and that each turn is one with an answer that fits.
use Rattle.std.proofs.Common.{◌≡◌, ℕ, true, ◌⊎◌, inl, inr, Option, Some, refl, sym, ap, ◌∙◌}
use Rattle.wc_value.specs.declared.process.JobResult.{JobResult}
use Rattle.wc_value.specs.declared.process.ProcessState.{ProcessState}
use Rattle.wc_value.specs.declared.process.ProcessState.TheVariants as state
use Rattle.wc_value.specs.declared.process.Reason.{Reason}
use Rattle.wc_value.specs.declared.process.Request.{Request}
use Rattle.wc_syntax.specs.declared.definition.Definition.{Definition}
use Rattle.wc_syntax.specs.declared.definition.Definition.TheVariants as definition
use Rattle.wc_syntax.specs.declared.definition.Job.{Job}
use Rattle.wc_expression.specs.declared.outcome.Outcome.{Outcome}
use Rattle.wc_expression.specs.declared.outcome.Outcome.TheVariants.{Gives, Faults}
use Rattle.wc_semantics.specs.Requests.{request}
use Rattle.wc_state.specs.declared.record.JobPart.{JobPart}
use Rattle.wc_state.specs.declared.record.Part.{Part}
use Rattle.wc_state.specs.declared.record.Part.TheVariants as part
use Rattle.wc_state.specs.declared.record.ProcessKind.{ProcessKind}
use Rattle.wc_state.specs.declared.record.ProcessKind.TheVariants as kind
use Rattle.wc_state.specs.declared.record.ProcessRecord.{ProcessRecord}
use Rattle.wc_state.specs.declared.record.Checkpoint.{Checkpoint}
use Rattle.wc_state.specs.declared.record.Task.{Task}
use Rattle.wc_state.specs.declared.record.Task.TheVariants as task
use Rattle.wc_world.specs.World.{World}
use Rattle.wc_world.specs.Consistent.{IsConsistent, Stands}
use Rattle.wc_world.specs.Fits.{part_fits}
use Rattle.wc_world.specs.Records.{find_record}
use Rattle.wc_world.proofs.FoundRecords.{found_holds}
use Rattle.wc_machine.specs.declared.answer.TaskAnswer.{TaskAnswer}
use Rattle.wc_machine.specs.declared.answer.TaskAnswer.TheVariants as answer
use Rattle.wc_machine.specs.Questions.{Need, nothing, performs, need_at, need, fits_task, fits}
use Rattle.wc_machine.specs.Laws.{FittingAnswersLead, TurnsFitNeeds}
use Rattle.wc_machine.specs.Recorded.{its_definition, recorded_inputs, recorded_request, request_by}
use Rattle.wc_machine.specs.Tasks.{Moved, after}
use Rattle.wc_machine.specs.Turns.{StandsAt, calculates, clones, begins, excepts, gives_up, moves, parses, advances, binds}

-- ---- what leads on

-- the answer moves the job, or is a result that is retrieved
abbrev LeadsOn : JobPart → TaskAnswer → ℕ → ℕ → Task → Type 0
LeadsOn j a now poll t = ((m : Moved) × (after j a now poll t ≡ Some m)) ⊎ ((t ≡ task.Retrieve) × ((r : JobResult) × (a ≡ answer.Result r)))

leads_on : (j : JobPart) (t : Task) (a : TaskAnswer) (now poll : ℕ) → fits_task t a ≡ true → LeadsOn j a now poll t
leads_on j t answer.Failed now poll h = inl (_, refl)
leads_on j t answer.Nothing now poll h = absurd (cc)
leads_on j task.Upload answer.Done now poll h = inl (_, refl)
leads_on j task.Submit answer.Done now poll h = inl (_, refl)
leads_on j task.Update answer.Done now poll h = inl (_, refl)
leads_on j task.Retrieve answer.Done now poll h = absurd (cc)
leads_on j task.Upload answer.Running now poll h = absurd (cc)
leads_on j task.Submit answer.Running now poll h = absurd (cc)
leads_on j task.Update answer.Running now poll h = inl (_, refl)
leads_on j task.Retrieve answer.Running now poll h = absurd (cc)
leads_on j task.Upload (answer.Result r) now poll h = absurd (cc)
leads_on j task.Submit (answer.Result r) now poll h = absurd (cc)
leads_on j task.Update (answer.Result r) now poll h = absurd (cc)
leads_on j task.Retrieve (answer.Result r) now poll h = inr (refl, (r, refl))

moved_fits : (j : JobPart) (t : Task) (a : TaskAnswer) (now poll : ℕ) (m : Moved) → after j a now poll t ≡ Some m → fits_task t a ≡ true
moved_fits j t answer.Failed now poll m h = refl
moved_fits j t answer.Nothing now poll m h = absurd (cc)
moved_fits j task.Upload answer.Done now poll m h = refl
moved_fits j task.Submit answer.Done now poll m h = refl
moved_fits j task.Update answer.Done now poll m h = refl
moved_fits j task.Retrieve answer.Done now poll m h = absurd (cc)
moved_fits j task.Upload answer.Running now poll m h = absurd (cc)
moved_fits j task.Submit answer.Running now poll m h = absurd (cc)
moved_fits j task.Update answer.Running now poll m h = refl
moved_fits j task.Retrieve answer.Running now poll m h = absurd (cc)
moved_fits j t (answer.Result r) now poll m h = absurd (cc)

fits_on : (j : JobPart) (t : Task) (a : TaskAnswer) (now poll : ℕ) → LeadsOn j a now poll t → fits_task t a ≡ true
fits_on j t a now poll (inl h) = moved_fits j t a now poll h.0 h.1
fits_on j t a now poll (inr h) = λ i. fits_task (h.0 i) (h.1.1 i)

pub fitting_answers_lead : FittingAnswersLead
fitting_answers_lead j a now poll = (leads_on j j.task a now poll, fits_on j j.task a now poll)

-- ---- turns

stands_quiet : (s : ProcessState) (p : Part) (c : Checkpoint) (asked : Option (Outcome Request)) → StandsAt s p c → need_at s p asked ≡ nothing
stands_quiet state.Created p c asked h = refl
stands_quiet state.Running p c asked h = refl
stands_quiet state.Waiting p c asked h = absurd h
stands_quiet (state.Finished n) p c asked h = refl
stands_quiet (state.Excepted r) p c asked h = refl
stands_quiet state.Killed p c asked h = refl

faults_quiet : (s : ProcessState) (j : JobPart) (reason : Reason) → need_at s (part.Job j) (Some (Faults reason)) ≡ nothing
faults_quiet state.Created j reason = refl
faults_quiet state.Running j reason = refl
faults_quiet state.Waiting j reason = refl
faults_quiet (state.Finished n) j reason = refl
faults_quiet (state.Excepted r) j reason = refl
faults_quiet state.Killed j reason = refl

job_waits : (k : ProcessKind) (s : ProcessState) (j : JobPart) → part_fits k s (part.Job j) ≡ true → s ≡ state.Waiting
job_waits k state.Created j h = absurd (cc)
job_waits kind.Function state.Running j h = absurd (cc)
job_waits kind.Job state.Running j h = absurd (cc)
job_waits kind.Chain state.Running j h = absurd (cc)
job_waits k state.Waiting j h = refl
job_waits k (state.Finished n) j h = absurd (cc)
job_waits k (state.Excepted r) j h = absurd (cc)
job_waits k state.Killed j h = absurd (cc)

module _ (w : World) (r : ProcessRecord) where
  created_quiet : (a : TaskAnswer) → r.state ≡ state.Created → a ≡ answer.Nothing → fits (need w r) a ≡ true
  created_quiet a created e = λ i. fits (need_at (created i) r.part (recorded_request w r)) (e i)

  -- the request of a job is recorded
  request_is : (j : Job) (o : Outcome Request) → its_definition w r ≡ Some (definition.Job j) → request j (recorded_inputs w r.node) ≡ o → recorded_request w r ≡ Some o
  request_is j o d e = ap (λ (x : Option Definition). request_by x (recorded_inputs w r.node)) d ∙ ap (λ (x : Outcome Request). Some x) e

  waiting_need : (p : JobPart) (q : Request) → r.part ≡ part.Job p → r.state ≡ state.Waiting → recorded_request w r ≡ Some (Gives q) → need w r ≡ performs p.task q
  waiting_need p q is waits asked = λ i. need_at (waits i) (is i) (asked i)

  waits_at_task : IsConsistent w → find_record r.node w.records ≡ Some r → (p : JobPart) → r.part ≡ part.Job p → r.state ≡ state.Waiting
  waits_at_task c found p is =
      let stands : Stands w r = found_holds (Stands w) r.node w.records r c.records found in
      job_waits r.kind r.state p (ap (part_fits r.kind r.state) (sym is) ∙ stands.part)

pub turns_fit_needs : TurnsFitNeeds
turns_fit_needs poll now w r a cs c found (calculates f d created source) = created_quiet w r answer.Nothing created refl
turns_fit_needs poll now w r a cs c found (clones q is created source there) = created_quiet w r answer.Nothing created refl
turns_fit_needs poll now w r a cs c found (begins j q d created source asked) = created_quiet w r answer.Nothing created refl
turns_fit_needs poll now w r a cs c found (excepts j reason d created source asked) = created_quiet w r answer.Nothing created refl
turns_fit_needs poll now w r a cs c found (gives_up j p reason d is asked) =
    ap (λ (n : Need). fits n answer.Nothing)
    ((λ i. need_at r.state (is i) (request_is w r j (Faults reason) d asked i)) ∙ faults_quiet r.state p reason)
turns_fit_needs poll now w r a cs c found (moves j p q b m d is asked moved) =
    ap (λ (n : Need). fits n b) (waiting_need w r p q is (waits_at_task w r c found p is) (request_is w r j (Gives q) d asked))
    ∙ moved_fits p p.task b now poll m moved
turns_fit_needs poll now w r a cs c found (parses j p q result d is asked retrieve) =
    ap (λ (n : Need). fits n (answer.Result result)) (waiting_need w r p q is (waits_at_task w r c found p is) (request_is w r j (Gives q) d asked))
    ∙ ap (λ (t : Task). fits_task t (answer.Result result)) retrieve
turns_fit_needs poll now w r a cs c found (advances k library p env d there at here) =
    ap (λ (n : Need). fits n answer.Nothing) (stands_quiet r.state r.part p (recorded_request w r) at)
turns_fit_needs poll now w r a cs c found (binds k p d waits is) =
    λ i. fits (need_at (waits i) (is i) (recorded_request w r)) answer.Nothing
