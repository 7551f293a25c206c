-- What the turn of a calculation comes to.
use Rattle.std.specs.Prelude.{◌≡◌, ℕ, false, List, [], ◌∷◌, length, Some, None}
use Rattle.wc_value.specs.declared.process.Request.{Request}
use Rattle.wc_syntax.specs.declared.definition.Job.{Job}
use Rattle.wc_expression.specs.declared.outcome.Outcome.{Outcome}
use Rattle.wc_expression.specs.declared.outcome.Outcome.TheVariants.{Gives, Faults}
use Rattle.wc_semantics.specs.declared.outcomes.Parsed.{Parsed}
use Rattle.wc_semantics.specs.Outcomes.{excepted, parsed}
use Rattle.wc_semantics.specs.Rules.{Values}
use Rattle.wc_state.specs.declared.record.JobPart.{JobPart}
use Rattle.wc_state.specs.declared.record.ProcessRecord.{ProcessRecord}
use Rattle.wc_world.specs.declared.change.Change.{Change}
use Rattle.wc_world.specs.World.{World}
use Rattle.wc_machine.specs.declared.answer.TaskAnswer.{TaskAnswer}
use Rattle.wc_machine.specs.declared.answer.TaskAnswer.TheVariants as answer
use Rattle.wc_machine.specs.Ends.{come_to, ends}
use Rattle.wc_machine.specs.Tasks.{after}
use Rattle.wc_machine.specs.Turns.{first_task, job_set}
use Rattle.wc_calculation_turns.specs.declared.tasks.JobStep.{JobStep}
use Rattle.wc_calculation_turns.specs.Steps.{moved}
use Rattle.wc_calculation_turns.specs.declared.courses.Course.{Course}
use Rattle.wc_calculation_turns.specs.declared.courses.Course.TheVariants as course

-- what a process comes to, as changes
abbrev pub course_changes : World → ProcessRecord → Course → List Change
course_changes w r (course.Ends e) = ends w r e.parsed e.source e.code
course_changes w r (course.Waits s) = job_set r s.part s.paused ∷ []

-- how many nodes these add
abbrev pub added_nodes : Course → ℕ
added_nodes (course.Ends e) = length e.parsed.outputs
added_nodes (course.Waits s) = 0

-- an end with no source and no exit code
abbrev pub own_end : Parsed → Course
own_end p = course.Ends (record { parsed = p; source = None; code = None })

-- an end with the outcome of another calculation, which has this number
abbrev pub cloned : World → ProcessRecord → ℕ → Course
cloned w q source = course.Ends (record { parsed = come_to w q; source = Some source; code = None })

-- a job with a request waits for its first task, and one whose request is a reason ends with it
abbrev pub begun : Outcome Request → Course
begun (Gives q) = course.Waits (record { part = first_task; paused = false })
begun (Faults reason) = own_end (excepted reason [])

-- a job that has moved by an answer
abbrev pub HasMoved : JobPart → TaskAnswer → (now poll : ℕ) → Course → Type 0
HasMoved p a now poll c = (s : JobStep) × (c ≡ course.Waits s) × (after p a now poll p.task ≡ Some (moved s))

-- An answer leads a waiting job that has a request there, at a moment, with a job polled after so many milliseconds: a result is parsed, and
-- ends it with the exit code, and any other answer moves it.
abbrev pub LeadsOn : Job → Values → JobPart → (now poll : ℕ) → TaskAnswer → Course → Type 0
LeadsOn j inputs p now poll answer.Nothing c = ⊥
LeadsOn j inputs p now poll answer.Failed c = HasMoved p answer.Failed now poll c
LeadsOn j inputs p now poll answer.Running c = HasMoved p answer.Running now poll c
LeadsOn j inputs p now poll answer.Done c = HasMoved p answer.Done now poll c
LeadsOn j inputs p now poll (answer.Result r) c =
    c ≡ course.Ends (record { parsed = parsed j inputs r; source = None; code = Some r.code })
