-- What a process asks of the transport next, and which answers fit.
use Rattle.std.specs.Prelude.{Bool, true, false, Option, Some, None}
use Rattle.wc_value.specs.declared.process.ProcessState.{ProcessState}
use Rattle.wc_value.specs.declared.process.ProcessState.TheVariants as state
use Rattle.wc_value.specs.declared.process.Request.{Request}
use Rattle.wc_expression.specs.declared.outcome.Outcome.{Outcome}
use Rattle.wc_expression.specs.declared.outcome.Outcome.TheVariants.{Gives, Faults}
use Rattle.wc_state.specs.declared.record.Part.{Part}
use Rattle.wc_state.specs.declared.record.Part.TheVariants as part
use Rattle.wc_state.specs.declared.record.ProcessRecord.{ProcessRecord}
use Rattle.wc_state.specs.declared.record.Task.{Task}
use Rattle.wc_state.specs.declared.record.Task.TheVariants as task
use Rattle.wc_world.specs.World.{World}
use Rattle.wc_machine.specs.declared.answer.TaskAnswer.{TaskAnswer}
use Rattle.wc_machine.specs.declared.answer.TaskAnswer.TheVariants as answer
use Rattle.wc_machine.specs.Recorded.{recorded_request}

-- nothing, or a task for a request
pub data Need : Type 0 where
  nothing : Need
  performs : Task → Request → Need

-- what a task asks: the request, or nothing where there is none
abbrev pub with_request : Task → Option (Outcome Request) → Need
with_request t None = nothing
with_request t (Some (Gives q)) = performs t q
with_request t (Some (Faults reason)) = nothing

-- what a process asks of the transport: a waiting job its task's question, any other nothing
abbrev pub need_at : ProcessState → Part → Option (Outcome Request) → Need
need_at state.Waiting (part.Job j) asked = with_request j.task asked
need_at _ _ asked = nothing

-- What a process asks next: a waiting job its task, with its request, whatever its mark and its due moment. Any other process asks nothing,
-- and neither does a job whose request is a reason.
abbrev pub need : World → ProcessRecord → Need
need w r = need_at r.state r.part (recorded_request w r)

-- the answers to a task: each may fail, only an update tells that the program runs, and only what is retrieved is a result
abbrev pub fits_task : Task → TaskAnswer → Bool
fits_task t answer.Failed = true
fits_task t answer.Nothing = false
fits_task task.Upload answer.Done = true
fits_task task.Submit answer.Done = true
fits_task task.Update answer.Done = true
fits_task task.Retrieve answer.Done = false
fits_task task.Upload answer.Running = false
fits_task task.Submit answer.Running = false
fits_task task.Update answer.Running = true
fits_task task.Retrieve answer.Running = false
fits_task task.Upload (answer.Result r) = false
fits_task task.Submit (answer.Result r) = false
fits_task task.Update (answer.Result r) = false
fits_task task.Retrieve (answer.Result r) = true

-- whether an answer is that nothing was asked
abbrev pub is_nothing : TaskAnswer → Bool
is_nothing answer.Nothing = true
is_nothing answer.Failed = false
is_nothing answer.Done = false
is_nothing answer.Running = false
is_nothing (answer.Result r) = false

-- An answer fits a need: nothing where nothing is asked, and else an answer to the task.
abbrev pub fits : Need → TaskAnswer → Bool
fits nothing a = is_nothing a
fits (performs t q) a = fits_task t a
