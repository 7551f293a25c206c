-- What a process asks.
use Rattle.std.proofs.Common.{◌≡◌, ℕ, true, Option, Some, None, refl, sym, ap, subst, ◌∙◌}
use Rattle.std.specs.Prelude.{IsSome}
use Rattle.wc_value.specs.declared.process.ProcessState.{ProcessState}
use Rattle.wc_value.specs.declared.process.ProcessState.TheVariants as state
use Rattle.wc_value.specs.declared.process.Request.{Request}
use Rattle.wc_syntax.specs.Bare.{bare_job}
use Rattle.wc_syntax.specs.declared.definition.Chain.{Chain}
use Rattle.wc_syntax.specs.declared.definition.Definition.{Definition}
use Rattle.wc_syntax.specs.declared.definition.Definition.TheVariants as definition
use Rattle.wc_syntax.specs.declared.definition.Function.{Function}
use Rattle.wc_syntax.specs.declared.definition.Job.{Job}
use Rattle.wc_expression.specs.declared.outcome.Outcome.{Outcome}
use Rattle.wc_semantics.specs.Requests.{request}
use Rattle.wc_semantics.specs.Rules.{Values}
use Rattle.wc_semantics.proofs.BareCalculations.{request_bare}
use Rattle.wc_state.specs.declared.record.Part.{Part}
use Rattle.wc_state.specs.declared.record.Part.TheVariants as part
use Rattle.wc_state.specs.declared.record.ProcessKind.{ProcessKind}
use Rattle.wc_state.specs.declared.record.ProcessKind.TheVariants as kind
use Rattle.wc_state.specs.declared.record.ProcessRecord.{ProcessRecord}
use Rattle.wc_state.specs.declared.record.Task.{Task}
use Rattle.wc_world.specs.World.{World}
use Rattle.wc_world.specs.Consistent.{IsConsistent, Stands}
use Rattle.wc_world.specs.Fits.{is_of_kind, part_fits}
use Rattle.wc_world.specs.Records.{find_record}
use Rattle.wc_world.proofs.FoundRecords.{found_holds}
use Rattle.wc_machine.specs.declared.answer.TaskAnswer.{TaskAnswer}
use Rattle.wc_machine.specs.declared.answer.TaskAnswer.TheVariants as answer
use Rattle.wc_machine.specs.Questions.{Need, nothing, with_request, need_at, need, is_nothing, fits}
use Rattle.wc_machine.specs.Recorded.{its_definition, recorded_inputs, recorded_request, request_by}
use Rattle.wc_machine.specs.Refusals.{NoneHolds}
use Rattle.wc_machine.specs.declared.error.TurnError.TheVariants as error
use Rattle.wc_core.specs.Asks.{asks_of, task_at}
use Rattle.wc_core.specs.Refusals.{RefusesNeed}

-- where a process is at no task, it asks nothing
pub nothing_at : (s : ProcessState) (p : Part) (asked : Option (Outcome Request)) → task_at s p ≡ None → need_at s p asked ≡ nothing
nothing_at state.Created p asked e = refl
nothing_at state.Running p asked e = refl
nothing_at state.Waiting part.Fresh asked e = refl
nothing_at state.Waiting (part.Chain c) asked e = refl
nothing_at state.Waiting (part.Job j) asked e = absurd (cc)
nothing_at state.Waiting part.Over asked e = refl
nothing_at (state.Finished n) p asked e = refl
nothing_at (state.Excepted r) p asked e = refl
nothing_at state.Killed p asked e = refl

-- and at a task it asks for that
pub performs_at : (s : ProcessState) (p : Part) (asked : Option (Outcome Request)) (t : Task) → task_at s p ≡ Some t → need_at s p asked ≡ with_request t asked
performs_at s part.Fresh asked t e = absurd (cc)
performs_at s (part.Chain c) asked t e = absurd (cc)
performs_at state.Created (part.Job j) asked t e = absurd (cc)
performs_at state.Running (part.Job j) asked t e = absurd (cc)
performs_at state.Waiting (part.Job j) asked t e = let same : Some j.task ≡ Some t = e in ap (λ (x : Task). with_request x asked) (cc)
performs_at (state.Finished n) (part.Job j) asked t e = absurd (cc)
performs_at (state.Excepted r) (part.Job j) asked t e = absurd (cc)
performs_at state.Killed (part.Job j) asked t e = absurd (cc)
performs_at s part.Over asked t e = absurd (cc)

-- ---- jobs

-- what is at a task is a job
job_at : (k : ProcessKind) (s : ProcessState) (p : Part) (t : Task) → task_at s p ≡ Some t → part_fits k s p ≡ true → k ≡ kind.Job
job_at k s part.Fresh t e h = absurd (cc)
job_at k s (part.Chain c) t e h = absurd (cc)
job_at k state.Created (part.Job j) t e h = absurd (cc)
job_at k state.Running (part.Job j) t e h = absurd (cc)
job_at kind.Function state.Waiting (part.Job j) t e h = absurd (cc)
job_at kind.Job state.Waiting (part.Job j) t e h = refl
job_at kind.Chain state.Waiting (part.Job j) t e h = absurd (cc)
job_at k (state.Finished n) (part.Job j) t e h = absurd (cc)
job_at k (state.Excepted r) (part.Job j) t e h = absurd (cc)
job_at k state.Killed (part.Job j) t e h = absurd (cc)
job_at k s part.Over t e h = absurd (cc)

job_asks : (o : Option Definition) (inputs : Values) → is_of_kind kind.Job o ≡ true → IsSome (request_by o inputs)
job_asks None inputs h = absurd (cc)
job_asks (Some (definition.Function f)) inputs h = absurd (cc)
job_asks (Some (definition.Job j)) inputs h = refl
job_asks (Some (definition.Chain c)) inputs h = absurd (cc)

pub asks_there : (w : World) (pid : ℕ) (r : ProcessRecord) (t : Task) → IsConsistent w → find_record pid w.records ≡ Some r → task_at r.state r.part ≡ Some t
    → IsSome (recorded_request w r)
asks_there w pid r t consistent found at =
    let stands : Stands w r = found_holds (Stands w) pid w.records r consistent.records found in
    let job : r.kind ≡ kind.Job = job_at r.kind r.state r.part t at stands.part in
    job_asks (its_definition w r) (recorded_inputs w r.node) (subst (λ (k : ProcessKind). is_of_kind k (its_definition w r) ≡ true) job stands.defined)

-- ---- refusals

pub need_told : (w : World) (pid : ℕ) (r : ProcessRecord) → find_record pid w.records ≡ Some r → NoneHolds (RefusesNeed w pid)
need_told w pid r found error.NotReady h = absurd h
need_told w pid r found (error.Full what count limit) h = absurd h
need_told w pid r found error.UnknownProcess h = let both : Some r ≡ None = sym found ∙ h in absurd (cc)
need_told w pid r found (error.Ended s) h = absurd h
need_told w pid r found error.UnknownName h = absurd h
need_told w pid r found (error.BadInputs port) h = absurd h
need_told w pid r found error.OutOfMemory h = refl

-- ---- chains

-- a chain is at no task
no_task : (s : ProcessState) (p : Part) → part_fits kind.Chain s p ≡ true → task_at s p ≡ None
no_task s part.Fresh h = refl
no_task s (part.Chain c) h = refl
no_task state.Created (part.Job j) h = refl
no_task state.Running (part.Job j) h = refl
no_task state.Waiting (part.Job j) h = absurd (cc)
no_task (state.Finished n) (part.Job j) h = refl
no_task (state.Excepted r) (part.Job j) h = refl
no_task state.Killed (part.Job j) h = refl
no_task s part.Over h = refl

is_none : (a : TaskAnswer) → is_nothing a ≡ true → a ≡ answer.Nothing
is_none answer.Nothing h = refl
is_none answer.Failed h = absurd (cc)
is_none answer.Done h = absurd (cc)
is_none answer.Running h = absurd (cc)
is_none (answer.Result r) h = absurd (cc)

-- so nothing alone is an answer to it
pub chain_answer : (w : World) (r : ProcessRecord) (a : TaskAnswer) → IsConsistent w → find_record r.node w.records ≡ Some r → r.kind ≡ kind.Chain → fits (need w r) a ≡ true
    → a ≡ answer.Nothing
chain_answer w r a consistent found chain fit =
    let stands : Stands w r = found_holds (Stands w) r.node w.records r consistent.records found in
    let none : task_at r.state r.part ≡ None = no_task r.state r.part (subst (λ (k : ProcessKind). part_fits k r.state r.part ≡ true) chain stands.part) in
    let asks : need w r ≡ nothing = nothing_at r.state r.part (recorded_request w r) none in
    is_none a (subst (λ (n : Need). fits n a ≡ true) asks fit)

-- ---- requests

module _ (w : World) (r : ProcessRecord) (asked : IsSome (recorded_request w r)) where
  by_definition : (o : Option Definition) → its_definition w r ≡ o → IsSome (request_by o (recorded_inputs w r.node))
  by_definition o d = subst (λ (x : Option Definition). IsSome (request_by x (recorded_inputs w r.node))) d asked

  pub runs_something : its_definition w r ≡ None → ⊥
  runs_something d = let h = by_definition None d in absurd (cc)

  pub runs_no_function : (f : Function) → its_definition w r ≡ Some (definition.Function f) → ⊥
  runs_no_function f d = let h = by_definition (Some (definition.Function f)) d in absurd (cc)

  pub runs_no_chain : (c : Chain) → its_definition w r ≡ Some (definition.Chain c) → ⊥
  runs_no_chain c d = let h = by_definition (Some (definition.Chain c)) d in absurd (cc)

-- what a job asks for at a task
pub asks_so : (w : World) (r : ProcessRecord) (j : Job) (t : Task) (o : Outcome Request) → its_definition w r ≡ Some (definition.Job (bare_job j))
    → request j (recorded_inputs w r.node) ≡ o → asks_of (with_request t (Some o)) ≡ asks_of (with_request t (recorded_request w r))
asks_so w r j t o d e =
    let is : recorded_request w r ≡ Some o
    = ap (λ (x : Option Definition). request_by x (recorded_inputs w r.node)) d ∙ ap (λ (x : Outcome Request). Some x) (request_bare j (recorded_inputs w r.node) ∙ e) in
    ap (λ (x : Option (Outcome Request)). asks_of (with_request t x)) (sym is)
