-- What a process asks next, as it is told.
use Rattle.std.specs.Prelude.{◌≡◌, ℕ, true, Option, Some, None, IfSome}
use Rattle.wc_value.specs.declared.process.ProcessState.{ProcessState}
use Rattle.wc_value.specs.declared.process.ProcessState.TheVariants as state
use Rattle.wc_value.specs.declared.process.Request.{Request}
use Rattle.wc_state.specs.declared.record.Part.{Part}
use Rattle.wc_state.specs.declared.record.Part.TheVariants as part
use Rattle.wc_state.specs.declared.record.ProcessRecord.{ProcessRecord}
use Rattle.wc_state.specs.declared.record.Task.{Task}
use Rattle.wc_state.specs.declared.record.Task.TheVariants as task
use Rattle.wc_world.specs.World.{World}
use Rattle.wc_world.specs.Records.{find_record}
use Rattle.wc_machine.specs.declared.answer.TaskAnswer.{TaskAnswer}
use Rattle.wc_machine.specs.Questions.{Need, nothing, performs, need, fits}
use Rattle.wc_core.specs.declared.needs.Asks.{Asks}
use Rattle.wc_core.specs.declared.needs.Asks.TheVariants as asks

-- the question of a task with its request
abbrev pub asks_task : Task → Request → Asks
asks_task task.Upload q = asks.Upload q
asks_task task.Submit q = asks.Submit q
asks_task task.Update q = asks.Update q
asks_task task.Retrieve q = asks.Retrieve q

-- what a process asks of the transport, as it is told
abbrev pub asks_of : Need → Asks
asks_of nothing = asks.Nothing
asks_of (performs t q) = asks_task t q

-- the task that a job which waits is at
abbrev pub task_at : ProcessState → Part → Option Task
task_at s part.Fresh = None
task_at s (part.Chain c) = None
task_at state.Created (part.Job j) = None
task_at state.Running (part.Job j) = None
task_at state.Waiting (part.Job j) = Some j.task
task_at (state.Finished n) (part.Job j) = None
task_at (state.Excepted r) (part.Job j) = None
task_at state.Killed (part.Job j) = None
task_at s part.Over = None

-- the process is there, and this is what it asks
abbrev pub IsNeedAt : World → (pid : ℕ) → Asks → Type 0
IsNeedAt w pid a = (r : ProcessRecord) × (find_record pid w.records ≡ Some r) × (a ≡ asks_of (need w r))

-- the answer fits what the process asks, if it is there
abbrev pub FitsAt : World → (pid : ℕ) → TaskAnswer → Type 0
FitsAt w pid a = IfSome (find_record pid w.records) (λ r. fits (need w r) a ≡ true)
