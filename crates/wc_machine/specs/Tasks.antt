-- The tasks of a job: what comes after an answer.
use Rattle.std.specs.Prelude.{ℕ, suc, ◌+◌, ◌*◌, ◌^◌, ◌-◌, ◌==◌, min, Bool, true, false, if◌then◌else◌, Option, Some, None}
use Rattle.wc_state.specs.declared.record.JobPart.{JobPart}
use Rattle.wc_state.specs.declared.record.Task.{Task}
use Rattle.wc_state.specs.declared.record.Task.TheVariants as task
use Rattle.wc_machine.specs.declared.answer.TaskAnswer.{TaskAnswer}
use Rattle.wc_machine.specs.declared.answer.TaskAnswer.TheVariants as answer

-- where a job stands after an answer, and whether it gets the pause mark
pub record Moved : Type 0 where
  pub part : JobPart
  pub paused : Bool

-- a sum of 64 bits, which stops at the greatest
abbrev pub saturated : ℕ → ℕ
saturated n = min n (2 ^ 64 - 1)

-- a job goes to a task, with no failure and due at once
abbrev pub goes_to : Task → Option Moved
goes_to t = Some (record { part = record { task = t; fails = 0; due = 0 }; paused = false })

-- After a failure the task is tried again, at first 20 seconds later and each time after twice as long. The fifth in a row pauses the job.
abbrev pub failed : JobPart → ℕ → Moved
failed j now =
    if j.fails == 4 then record { part = record { task = j.task; fails = 5; due = j.due }; paused = true }
    else record { part = record { task = j.task; fails = suc j.fails; due = saturated (now + 20000 * 2 ^ j.fails) }; paused = false }

-- What follows an answer that fits the task. A result is no step of a task: it ends the job.
abbrev pub after : JobPart → TaskAnswer → (now poll : ℕ) → Task → Option Moved
after j answer.Failed now poll t = Some (failed j now)
after j answer.Done now poll task.Upload = goes_to task.Submit
after j answer.Done now poll task.Submit = goes_to task.Update
after j answer.Done now poll task.Update = goes_to task.Retrieve
after j answer.Done now poll task.Retrieve = None
after j answer.Running now poll task.Upload = None
after j answer.Running now poll task.Submit = None
after j answer.Running now poll task.Update = Some (record { part = record { task = task.Update; fails = 0; due = saturated (now + poll) }; paused = false })
after j answer.Running now poll task.Retrieve = None
after j answer.Nothing now poll t = None
after j (answer.Result r) now poll t = None
