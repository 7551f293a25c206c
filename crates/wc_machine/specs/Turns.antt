-- What the turn of a process does.
use Rattle.std.specs.Prelude.{◌≡◌, ℕ, ◌+◌, false, true, List, [], ◌∷◌, Bool, Some, None}
use Rattle.wc_value.specs.declared.process.JobResult.{JobResult}
use Rattle.wc_value.specs.declared.process.ProcessState.{ProcessState}
use Rattle.wc_value.specs.declared.process.ProcessState.TheVariants as state
use Rattle.wc_value.specs.declared.process.Reason.{Reason}
use Rattle.wc_value.specs.declared.process.Request.{Request}
use Rattle.wc_syntax.specs.declared.definition.Chain.{Chain}
use Rattle.wc_syntax.specs.declared.definition.Definition.TheVariants as definition
use Rattle.wc_syntax.specs.declared.definition.Function.{Function}
use Rattle.wc_syntax.specs.declared.definition.Job.{Job}
use Rattle.wc_state.specs.Checkpoint.{first}
use Rattle.wc_state.specs.declared.environment.Env.{Env}
use Rattle.wc_state.specs.declared.record.Checkpoint.{Checkpoint}
use Rattle.wc_state.specs.declared.record.JobPart.{JobPart}
use Rattle.wc_state.specs.declared.record.Part.{Part}
use Rattle.wc_state.specs.declared.record.Part.TheVariants as part
use Rattle.wc_state.specs.declared.record.ProcessRecord.{ProcessRecord}
use Rattle.wc_state.specs.declared.record.Task.TheVariants as task
use Rattle.wc_expression.specs.declared.outcome.Outcome.TheVariants.{Gives, Faults}
use Rattle.wc_semantics.specs.Outcomes.{excepted, calculated, parsed}
use Rattle.wc_semantics.specs.Requests.{request}
use Rattle.wc_world.specs.declared.change.Change.{Change}
use Rattle.wc_world.specs.declared.change.Change.TheVariants as change
use Rattle.wc_world.specs.World.{World}
use Rattle.wc_world.specs.Records.{find_record, is_calculation, library_at}
use Rattle.wc_world.specs.Trees.{environment_at}
use Rattle.wc_syntax.specs.declared.definition.Definition.{Definition}
use Rattle.wc_machine.specs.declared.answer.TaskAnswer.{TaskAnswer}
use Rattle.wc_machine.specs.declared.answer.TaskAnswer.TheVariants as answer
use Rattle.wc_machine.specs.Advances.{advance}
use Rattle.wc_machine.specs.Calls.{advanced, chain_set, bound, fuel_of}
use Rattle.wc_machine.specs.Ends.{ends, come_to, TakesSource}
use Rattle.wc_machine.specs.Recorded.{its_definition, recorded_inputs}
use Rattle.wc_machine.specs.Tasks.{Moved, after, saturated}

-- a job that waits
abbrev pub job_set : ProcessRecord → JobPart → Bool → Change
job_set r j paused = change.Set (record { pid = r.node; state = state.Waiting; paused = paused; cached_from = 0; fuel = r.fuel; code = None; part = part.Job j })

-- how a job stands at first: it is to be uploaded
abbrev pub first_task : JobPart
first_task = record { task = task.Upload; fails = 0; due = 0 }

-- where a chain stands that is created or running
abbrev pub StandsAt : ProcessState → Part → Checkpoint → Type 0
StandsAt state.Created part.Fresh c = c ≡ first
StandsAt state.Running (part.Chain d) c = c ≡ d
StandsAt _ _ c = ⊥

-- The changes of a turn of a ready process, at a moment, with what the transport answered. In a consistent world there is at most one such
-- list: there only a created process has the part of one, and the kind of a process is that of its definition. Elsewhere several cases may fit.
pub data TurnGives (poll now : ℕ) (w : World) (r : ProcessRecord) : TaskAnswer → List Change → Type 0 where
  -- a function is evaluated, and ends
  calculates : (f : Function) → its_definition w r ≡ Some (definition.Function f) → r.state ≡ state.Created → TakesSource w r None
      → TurnGives poll now w r answer.Nothing (ends w r (calculated f (recorded_inputs w r.node)) None None)
  -- a calculation takes the outcome of an equal one that has ended, with clones of its outputs
  clones : (q : ProcessRecord) → is_calculation r.kind ≡ true → r.state ≡ state.Created → TakesSource w r (Some q.node)
      → find_record q.node w.records ≡ Some q → TurnGives poll now w r answer.Nothing (ends w r (come_to w q) (Some q.node) None)
  -- a job with a request waits for its first task, and one whose request is a reason ends with it
  begins : (j : Job) (q : Request) → its_definition w r ≡ Some (definition.Job j) → r.state ≡ state.Created → TakesSource w r None
      → request j (recorded_inputs w r.node) ≡ Gives q → TurnGives poll now w r answer.Nothing (job_set r first_task false ∷ [])
  excepts : (j : Job) (reason : Reason) → its_definition w r ≡ Some (definition.Job j) → r.state ≡ state.Created → TakesSource w r None
      → request j (recorded_inputs w r.node) ≡ Faults reason → TurnGives poll now w r answer.Nothing (ends w r (excepted reason []) None None)
  gives_up : (j : Job) (p : JobPart) (reason : Reason) → its_definition w r ≡ Some (definition.Job j) → r.part ≡ part.Job p
      → request j (recorded_inputs w r.node) ≡ Faults reason → TurnGives poll now w r answer.Nothing (ends w r (excepted reason []) None None)
  -- a waiting job moves by the answer, and a result is parsed and ends it
  moves : (j : Job) (p : JobPart) (q : Request) (a : TaskAnswer) (m : Moved) → its_definition w r ≡ Some (definition.Job j) → r.part ≡ part.Job p
      → request j (recorded_inputs w r.node) ≡ Gives q → after p a now poll p.task ≡ Some m
      → TurnGives poll now w r a (job_set r m.part m.paused ∷ [])
  parses : (j : Job) (p : JobPart) (q : Request) (result : JobResult) → its_definition w r ≡ Some (definition.Job j) → r.part ≡ part.Job p
      → request j (recorded_inputs w r.node) ≡ Gives q → p.task ≡ task.Retrieve
      → TurnGives poll now w r (answer.Result result) (ends w r (parsed j (recorded_inputs w r.node) result) None (Some result.code))
  -- a chain evaluates one instruction, or binds the children that it awaited
  advances : (k : Chain) (library : List Definition) (c : Checkpoint) (env : Env) → its_definition w r ≡ Some (definition.Chain k)
      → library_at w.libraries r.library ≡ Some library → StandsAt r.state r.part c → environment_at w r.node ≡ Some env
      → TurnGives poll now w r answer.Nothing (advanced w r k.head.outputs (advance library k r.depth env c))
  binds : (k : Chain) (c : Checkpoint) → its_definition w r ≡ Some (definition.Chain k) → r.state ≡ state.Waiting → r.part ≡ part.Chain c
      → TurnGives poll now w r answer.Nothing
      (chain_set w r state.Running (saturated (r.fuel + fuel_of w.records c.awaiting)) (part.Chain (bound c)) ∷ [])
