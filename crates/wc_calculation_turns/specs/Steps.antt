-- The answers of a transport and the steps of a job, as the tasks of a job are defined with them.
use Rattle.wc_machine.specs.declared.answer.TaskAnswer.{TaskAnswer}
use Rattle.wc_machine.specs.declared.answer.TaskAnswer.TheVariants as given
use Rattle.wc_machine.specs.Tasks.{Moved}
use Rattle.wc_calculation_turns.specs.declared.tasks.Answer.{Answer}
use Rattle.wc_calculation_turns.specs.declared.tasks.Answer.TheVariants as answer
use Rattle.wc_calculation_turns.specs.declared.tasks.JobStep.{JobStep}

-- an answer of this crate in the words of the machine
abbrev pub task_answer : Answer → TaskAnswer
task_answer answer.Failed = given.Failed
task_answer answer.Running = given.Running
task_answer answer.Done = given.Done

-- a job's step of this crate in the words of the machine
abbrev pub moved : JobStep → Moved
moved s = record { part = s.part; paused = s.paused }
