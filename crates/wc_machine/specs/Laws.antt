-- Laws of the machine: submissions, the turns of functions, answers.
use Rattle.std.specs.Prelude.{◌≡◌, ◌↔◌, ◌⊎◌, ℕ, ◌+◌, ◌<◌, ◌≤◌, true, List, length, All, Some, None}
use Rattle.wc_value.specs.declared.process.JobResult.{JobResult}
use Rattle.wc_value.specs.declared.process.ProcessState.TheVariants as state
use Rattle.wc_syntax.specs.declared.definition.Definition.{Definition}
use Rattle.wc_syntax.specs.declared.definition.Definition.TheVariants as definition
use Rattle.wc_syntax.specs.declared.definition.Function.{Function}
use Rattle.wc_semantics.specs.Outcomes.{calculated}
use Rattle.wc_semantics.specs.Rules.{Values}
use Rattle.wc_semantics.specs.declared.outcomes.Parsed.{Parsed}
use Rattle.wc_state.specs.declared.record.JobPart.{JobPart}
use Rattle.wc_state.specs.declared.record.ProcessRecord.{ProcessRecord}
use Rattle.wc_state.specs.declared.record.Task.TheVariants as task
use Rattle.wc_world.specs.declared.change.Change.{Change}
use Rattle.wc_world.specs.World.{World, empty}
use Rattle.wc_world.specs.Accepted.{IsAccepted, IsReached}
use Rattle.wc_world.specs.Applied.{applied}
use Rattle.wc_world.specs.Consistent.{IsConsistent}
use Rattle.wc_world.specs.Records.{find_record, is_calculation}
use Rattle.wc_machine.specs.declared.answer.TaskAnswer.{TaskAnswer}
use Rattle.wc_machine.specs.declared.answer.TaskAnswer.TheVariants as answer
use Rattle.wc_machine.specs.Questions.{need, fits, fits_task}
use Rattle.wc_machine.specs.Continues.{Continues}
use Rattle.wc_machine.specs.Ends.{ends}
use Rattle.wc_machine.specs.Recorded.{its_definition, recorded_inputs}
use Rattle.wc_machine.specs.Sound.{CallsAreKept, IsSound}
use Rattle.wc_machine.specs.Submissions.{Submits, submitted_number}
use Rattle.wc_machine.specs.Tasks.{Moved, after}
use Rattle.wc_machine.specs.Turns.{TurnGives}

-- there is room for nodes up to this number, and for one batch more
pub record HasPlaces (w : World) (last : ℕ) : Type 0 where
  pub nodes : last ≤ 8000000
  pub batches : w.batches < 4000000000

-- ---- submissions

-- The law: a world that accepted changes made accepts the changes of a submission, where there is room for them
abbrev pub SubmissionsAreAccepted : Type 0
SubmissionsAreAccepted = (w : World) (library : List Definition) (caching : List (List ℕ)) (name : List ℕ) (inputs : Values) (cs : List Change)
    → IsReached w → Submits w library caching name inputs cs → HasPlaces w (submitted_number w inputs)
    → IsAccepted w cs

-- The law: the world after a submission continues the one before
abbrev pub SubmissionsContinue : Type 0
SubmissionsContinue = (w : World) (library : List Definition) (caching : List (List ℕ)) (name : List ℕ) (inputs : Values) (cs : List Change)
    → IsReached w → Submits w library caching name inputs cs → Continues w (applied w cs)

-- ---- turns

-- a calculation that is created, in a world that accepted changes make
pub record IsCreatedCalculation (w : World) (r : ProcessRecord) : Type 0 where
  pub reached : IsReached w
  pub found : find_record r.node w.records ≡ Some r
  pub calculates : is_calculation r.kind ≡ true
  pub created : r.state ≡ state.Created

-- the outputs of what a created function means
abbrev pub calculated_for : World → ProcessRecord → Function → Parsed
calculated_for w r f = calculated f (recorded_inputs w r.node)

-- The law: a world accepts the changes by which a created function ends, where there is room for them
abbrev pub FunctionsAreAccepted : Type 0
FunctionsAreAccepted = (w : World) (r : ProcessRecord) (f : Function) → IsCreatedCalculation w r → its_definition w r ≡ Some (definition.Function f)
    → HasPlaces w (length w.nodes + length (calculated_for w r f).outputs) → IsAccepted w (ends w r (calculated_for w r f) None None)

-- The function hasn't started, and what an ended process of the world has called has ended: so no tree of one changes.
abbrev pub FunctionsContinue : Type 0
FunctionsContinue = (w : World) (r : ProcessRecord) (f : Function) → IsCreatedCalculation w r → All (CallsAreKept w) w.records → r.started ≡ 0
    → its_definition w r ≡ Some (definition.Function f) → Continues w (applied w (ends w r (calculated_for w r f) None None))

-- ---- the beginning

-- The law: the empty world is sound
abbrev pub EmptyIsSound : Type 0
EmptyIsSound = IsSound empty

-- ---- answers

-- An answer to a task moves a job, or is a result that is retrieved, exactly where it fits.
abbrev pub FittingAnswersLead : Type 0
FittingAnswersLead = (j : JobPart) (a : TaskAnswer) (now poll : ℕ)
    → (fits_task j.task a ≡ true) ↔ (((m : Moved) × (after j a now poll j.task ≡ Some m)) ⊎ ((j.task ≡ task.Retrieve) × ((r : JobResult) × (a ≡ answer.Result r))))

-- In a consistent world a turn is one with an answer that fits what the process asks.
abbrev pub TurnsFitNeeds : Type 0
TurnsFitNeeds = (poll now : ℕ) (w : World) (r : ProcessRecord) (a : TaskAnswer) (cs : List Change) → IsConsistent w → find_record r.node w.records ≡ Some r
    → TurnGives poll now w r a cs → fits (need w r) a ≡ true
