-- Laws of events that set one process: marks, and the tasks of jobs.
use Rattle.std.specs.Prelude.{◌≡◌, ◌↔◌, ◌<◌, ℕ, Bool, true, false, [], ◌∷◌, Some, None, ◌+◌, ℤ, length, codes, Option}
use Rattle.wc_value.specs.declared.process.ProcessState.{ProcessState}
use Rattle.wc_value.specs.declared.process.ProcessState.TheVariants as state
use Rattle.wc_value.specs.declared.process.Request.{Request}
use Rattle.wc_syntax.specs.declared.definition.Definition.TheVariants as definition
use Rattle.wc_syntax.specs.declared.definition.Job.{Job}
use Rattle.wc_expression.specs.declared.outcome.Outcome.TheVariants.{Gives, Faults}
use Rattle.wc_semantics.specs.Requests.{request}
use Rattle.wc_state.specs.declared.record.JobPart.{JobPart}
use Rattle.wc_state.specs.declared.record.Part.{Part}
use Rattle.wc_state.specs.declared.record.Part.TheVariants as part
use Rattle.wc_state.specs.declared.record.ProcessRecord.{ProcessRecord}
use Rattle.wc_world.specs.World.{World}
use Rattle.wc_world.specs.Accepted.{IsAccepted}
use Rattle.wc_world.specs.Applied.{applied}
use Rattle.wc_world.specs.Consistent.{IsConsistent}
use Rattle.wc_world.specs.Records.{find_record, has_ended, is_calculation}
use Rattle.wc_machine.specs.declared.answer.TaskAnswer.{TaskAnswer}
use Rattle.wc_machine.specs.Ends.{TakesSource, ends}
use Rattle.wc_machine.specs.Machine.{IsLive, pause_changes, play_changes}
use Rattle.wc_machine.specs.Readiness.{is_ready}
use Rattle.wc_machine.specs.Recorded.{its_definition, recorded_inputs}
use Rattle.wc_machine.specs.Sound.{IsSound}
use Rattle.wc_machine.specs.Tasks.{Moved, after}
use Rattle.wc_machine.specs.Turns.{job_set}
use Rattle.wc_value.specs.declared.process.Reason.{Reason}
use Rattle.wc_semantics.specs.Outcomes.{excepted, parsed}
use Rattle.wc_semantics.specs.Rules.{Values, kind_of_port}
use Rattle.wc_value.specs.Ascending.{lookup}
use Rattle.wc_value.specs.declared.process.JobResult.{JobResult}
use Rattle.wc_value.specs.declared.value.Value.TheVariants as value
use Rattle.wc_semantics.specs.declared.outcomes.Parsed.{Parsed}
use Rattle.wc_machine.specs.Laws.{HasPlaces}
use Rattle.wc_machine.specs.Submissions.{AreInputs}
use Rattle.wc_soundness.specs.Touches.{Touches}
use Rattle.wc_soundness.specs.Sets.{AreSafe, AreSafeWithin, EndsRightly, IsFittingMove, StaysOnTrack, moved, moves_to}

-- ---- one Set

-- A Set that fits is accepted where there is room for one batch more.
abbrev pub MovesAreAccepted : Type 0
MovesAreAccepted = (w : World) (r : ProcessRecord) (s : ProcessState) (paused : Bool) (fuel : ℕ) (p : Part) → IsConsistent w → find_record r.node w.records ≡ Some r
    → IsFittingMove w r (moved r s paused fuel p) → w.batches < 4000000000 → IsAccepted w (moves_to r s paused fuel p)

-- It touches the process alone.
abbrev pub MovesTouch : Type 0
MovesTouch = (w : World) (r : ProcessRecord) (s : ProcessState) (paused : Bool) (fuel : ℕ) (p : Part) → IsSound w → find_record r.node w.records ≡ Some r
    → has_ended r.state ≡ false → Touches w (applied w (moves_to r s paused fuel p)) r.node

-- Where the process then has as much before it as before, with the same fuel, it is accepted, the world stays sound and goes on.
abbrev pub MovesAreSafe : Type 0
MovesAreSafe = (w : World) (r : ProcessRecord) (s : ProcessState) (paused : Bool) (p : Part) → IsSound w → find_record r.node w.records ≡ Some r
    → IsFittingMove w r (moved r s paused r.fuel p) → StaysOnTrack w r s p → AreSafe w (moves_to r s paused r.fuel p)

-- ---- the pause mark

-- The law: the changes of a pause and of a play of a live process of a sound world are safe
abbrev pub MarksAreSafe : Type 0
MarksAreSafe = (w : World) (r : ProcessRecord) → IsSound w → IsLive w r → AreSafe w (pause_changes r) × AreSafe w (play_changes r)

-- There are no changes exactly where the mark is as it is to be.
abbrev pub MarksAreKept : Type 0
MarksAreKept = (r : ProcessRecord) → ((pause_changes r ≡ []) ↔ (r.paused ≡ true)) × ((play_changes r ≡ []) ↔ (r.paused ≡ false))

-- ---- jobs

-- A ready job moves by an answer.
abbrev pub TasksAreSafe : Type 0
TasksAreSafe = (poll now : ℕ) (w : World) (r : ProcessRecord) (j : Job) (p : JobPart) (q : Request) (a : TaskAnswer) (m : Moved) → IsSound w
    → find_record r.node w.records ≡ Some r → is_ready w now r ≡ true → its_definition w r ≡ Some (definition.Job j) → r.part ≡ part.Job p
    → request j (recorded_inputs w r.node) ≡ Gives q → after p a now poll p.task ≡ Some m → AreSafe w (job_set r m.part m.paused ∷ [])

-- ---- ends

-- The end of a live calculation without source is accepted where there is room for its outputs.
abbrev pub LiveEndsAreAccepted : Type 0
LiveEndsAreAccepted = (w : World) (r : ProcessRecord) (p : Parsed) (code : Option ℤ) → IsConsistent w → find_record r.node w.records ≡ Some r
    → is_calculation r.kind ≡ true → has_ended r.state ≡ false → has_ended p.state ≡ true → AreInputs p.outputs
    → HasPlaces w (length w.nodes + length p.outputs) → IsAccepted w (ends w r p None code)

-- It touches the calculation alone.
abbrev pub LiveEndsTouch : Type 0
LiveEndsTouch = (w : World) (r : ProcessRecord) (p : Parsed) (code : Option ℤ) → IsSound w → find_record r.node w.records ≡ Some r
    → has_ended r.state ≡ false → Touches w (applied w (ends w r p None code)) r.node

-- An end that is right keeps a world sound.
abbrev pub EndsAreSafe : Type 0
EndsAreSafe = (w : World) (r : ProcessRecord) (p : Parsed) (code : Option ℤ) → IsSound w → find_record r.node w.records ≡ Some r
    → is_calculation r.kind ≡ true → has_ended r.state ≡ false → EndsRightly w r p code
    → AreSafeWithin (length w.nodes + length p.outputs) w (ends w r p None code)

-- A created job that takes no source and whose request is a reason excepts with it.
abbrev pub FaultingJobsAreSafe : Type 0
FaultingJobsAreSafe = (w : World) (r : ProcessRecord) (j : Job) (reason : Reason) → IsSound w → find_record r.node w.records ≡ Some r
    → its_definition w r ≡ Some (definition.Job j) → r.state ≡ state.Created → TakesSource w r None → request j (recorded_inputs w r.node) ≡ Faults reason
    → AreSafeWithin (length w.nodes) w (ends w r (excepted reason []) None None)

-- In a sound world no job waits whose request is a reason.
abbrev pub WaitingJobsAsk : Type 0
WaitingJobsAsk = (w : World) (r : ProcessRecord) (j : Job) (p : JobPart) (reason : Reason) → IsSound w → find_record r.node w.records ≡ Some r
    → its_definition w r ≡ Some (definition.Job j) → r.part ≡ part.Job p → request j (recorded_inputs w r.node) ≡ Faults reason → ⊥

-- The folder that a job brings back is among what its rules make of the result, where no output port has its name.
abbrev pub RetrievedStays : Type 0
RetrievedStays = (j : Job) (inputs : Values) (result : JobResult) → kind_of_port (codes "retrieved") j.head.outputs ≡ None
    → lookup (codes "retrieved") (parsed j inputs result).outputs ≡ Some (value.Folder result.files)

-- In a sound world no output port of a job has that name.
abbrev pub RetrievedIsFree : Type 0
RetrievedIsFree = (w : World) (r : ProcessRecord) (j : Job) → IsSound w → its_definition w r ≡ Some (definition.Job j)
    → kind_of_port (codes "retrieved") j.head.outputs ≡ None

-- So a waiting job with a result ends as its rules make of it.
abbrev pub ParsesAreSafe : Type 0
ParsesAreSafe = (w : World) (r : ProcessRecord) (j : Job) (p : JobPart) (q : Request) (result : JobResult) → IsSound w → find_record r.node w.records ≡ Some r
    → its_definition w r ≡ Some (definition.Job j) → r.part ≡ part.Job p → request j (recorded_inputs w r.node) ≡ Gives q
    → AreSafeWithin (length w.nodes + length (parsed j (recorded_inputs w r.node) result).outputs) w
    (ends w r (parsed j (recorded_inputs w r.node) result) None (Some result.code))
