-- Laws of caching in sound worlds, of submissions and of the turns of created calculations.
use Rattle.std.specs.Prelude.{◌≡◌, ◌≢◌, ℕ, ◌+◌, ◌<◌, true, false, List, [], ◌∷◌, length, All, Some, None}
use Rattle.wc_value.specs.declared.process.ProcessState.TheVariants as state
use Rattle.wc_value.specs.declared.process.Request.{Request}
use Rattle.wc_syntax.specs.declared.definition.Definition.{Definition}
use Rattle.wc_syntax.specs.declared.definition.Definition.TheVariants as definition
use Rattle.wc_syntax.specs.declared.definition.Function.{Function}
use Rattle.wc_syntax.specs.declared.definition.Job.{Job}
use Rattle.wc_expression.specs.declared.outcome.Outcome.TheVariants.{Gives}
use Rattle.wc_semantics.specs.declared.outcomes.Parsed.{Parsed}
use Rattle.wc_semantics.specs.Requests.{request}
use Rattle.wc_semantics.specs.Rules.{Values}
use Rattle.wc_state.specs.declared.record.ProcessRecord.{ProcessRecord}
use Rattle.wc_world.specs.declared.change.Change.{Change}
use Rattle.wc_world.specs.World.{World}
use Rattle.wc_world.specs.Accepted.{IsAccepted}
use Rattle.wc_world.specs.Applied.{applied}
use Rattle.wc_world.specs.Consistent.{IsConsistent}
use Rattle.wc_world.specs.Records.{find_record, has_ended}
use Rattle.wc_machine.specs.declared.answer.TaskAnswer.{TaskAnswer}
use Rattle.wc_machine.specs.Continues.{Continues}
use Rattle.wc_machine.specs.Created.{GivenFor, IsGiven}
use Rattle.wc_machine.specs.Ends.{ends, come_to, TakesSource}
use Rattle.wc_machine.specs.Laws.{HasPlaces, calculated_for}
use Rattle.wc_machine.specs.Recorded.{its_definition, recorded_inputs, recorded_outputs}
use Rattle.wc_machine.specs.Sound.{IsSound}
use Rattle.wc_machine.specs.Sources.{KeepsCacheRule}
use Rattle.wc_machine.specs.Submissions.{AreInputs, Submits}
use Rattle.wc_machine.specs.Turns.{TurnGives, first_task, job_set}
use Rattle.wc_turn_laws.specs.CalculationLaws.{MayStart}
use Rattle.wc_soundness.specs.Touches.{Touches, MayBeTouched}
use Rattle.wc_soundness.specs.Courses.{ComesTo}
use Rattle.wc_soundness.specs.Starts.{EndsAreLater, StartsByRule}

-- ---- the cache rule

-- The rule is stable: what ends later is no source for an earlier start. So each world that continues a sound one keeps the rule, where what
-- ends between them ends later, and each process starts by the rule.
abbrev pub RuleIsStable : Type 0
RuleIsStable = (v w : World) → IsSound v → IsConsistent w → Continues v w → EndsAreLater v w → All (StartsByRule v) w.records → KeepsCacheRule w

-- ---- outcomes

-- The recorded outputs of a process ascend by their labels, and are at most 32 deep: so they can be created once more.
abbrev pub OutputsAreInputs : Type 0
OutputsAreInputs = (w : World) (pid : ℕ) → IsConsistent w → AreInputs (recorded_outputs w pid)

-- Caching doesn't change an outcome: what is given for a calculation that wasn't killed is what its own definition comes to for its own inputs,
-- whether it took the outcome of another or not.
abbrev pub GivenComes : Type 0
GivenComes = (w : World) (r : ProcessRecord) (p : Parsed) (d : Definition) → IsSound w → find_record r.node w.records ≡ Some r → r.state ≢ state.Killed
    → its_definition w r ≡ Some d → GivenFor w r.node p → ComesTo w r.node (recorded_inputs w r.node) d p

-- What is given for an ended calculation stays given after an event that touches another process.
abbrev pub GivenStays : Type 0
GivenStays = (v w : World) (pid : ℕ) → IsSound v → Touches v w pid → MayBeTouched v pid → (r : ProcessRecord) → find_record r.node v.records ≡ Some r
    → has_ended r.state ≡ true → IsGiven v r → IsGiven w r

-- ---- the turn of a calculation that takes the outcome of another

-- a created calculation of a sound world that takes the outcome of this one
pub record TakesOutcome (w : World) (r q : ProcessRecord) : Type 0 where
  pub starts : MayStart w r
  pub sound : IsSound w
  pub source : TakesSource w r (Some q.node)
  pub there : find_record q.node w.records ≡ Some q

-- clones of its outputs are created, and the calculation ends as it did
abbrev pub clones : World → ProcessRecord → ProcessRecord → List Change
clones w r q = ends w r (come_to w q) (Some q.node) None

-- The law: the changes of a created calculation that takes the outcome of an equal one are accepted where there is room
abbrev pub ClonesAreAccepted : Type 0
ClonesAreAccepted = (w : World) (r q : ProcessRecord) → TakesOutcome w r q → HasPlaces w (length w.nodes + length (recorded_outputs w q.node)) → IsAccepted w (clones w r q)

-- The law: the world after these changes continues the one before
abbrev pub ClonesContinue : Type 0
ClonesContinue = (w : World) (r q : ProcessRecord) → TakesOutcome w r q → Continues w (applied w (clones w r q))

-- The law: where they are accepted, the world after them is sound
abbrev pub ClonesKeepSound : Type 0
ClonesKeepSound = (w : World) (r q : ProcessRecord) → TakesOutcome w r q → IsAccepted w (clones w r q) → IsSound (applied w (clones w r q))

-- ---- the turn of a created calculation that finds no source

-- A function ends as its rules say, in any sound world, with caching on or off.
abbrev pub CreatedFunctionsKeepSound : Type 0
CreatedFunctionsKeepSound = (w : World) (r : ProcessRecord) (f : Function) → MayStart w r → IsSound w → TakesSource w r None
    → its_definition w r ≡ Some (definition.Function f) → IsAccepted w (ends w r (calculated_for w r f) None None)
    → IsSound (applied w (ends w r (calculated_for w r f) None None))

-- A job with a request that finds no source, with caching on or off, in a sound world.
pub record MayBegin (w : World) (r : ProcessRecord) : Type 0 where
  pub starts : MayStart w r
  pub sound : IsSound w
  pub source : TakesSource w r None
  pub job : Job
  pub runs : its_definition w r ≡ Some (definition.Job job)
  pub query : Request
  pub asked : request job (recorded_inputs w r.node) ≡ Gives query

-- It waits for its first task.
abbrev pub beginning : ProcessRecord → List Change
beginning r = job_set r first_task false ∷ []

-- The law: the change by which a created calculation begins, since it takes no outcome, is accepted, below 4,000,000,000 batches
abbrev pub BeginningsAreAccepted : Type 0
BeginningsAreAccepted = (w : World) (r : ProcessRecord) → MayBegin w r → w.batches < 4000000000 → IsAccepted w (beginning r)

-- The law: the world after this change continues the one before
abbrev pub BeginningsContinue : Type 0
BeginningsContinue = (w : World) (r : ProcessRecord) → MayBegin w r → Continues w (applied w (beginning r))

-- The law: where it is accepted, the world after it is sound
abbrev pub BeginningsKeepSound : Type 0
BeginningsKeepSound = (w : World) (r : ProcessRecord) → MayBegin w r → IsAccepted w (beginning r) → IsSound (applied w (beginning r))

-- ---- the turn of a created calculation

-- Changes are accepted where there is room for the nodes and the batch after them, the world after continues the one before, and it is sound.
pub record GoesWell (w : World) (cs : List Change) : Type 0 where
  pub accepted : HasPlaces w (length (applied w cs).nodes) → IsAccepted w cs
  pub continued : Continues w (applied w cs)
  pub sound : IsAccepted w cs → IsSound (applied w cs)

-- So each turn of a created calculation of a sound world goes well: it takes the outcome of an equal one, is evaluated, begins, or excepts.
abbrev pub CreatedTurnsGoWell : Type 0
CreatedTurnsGoWell = (poll now : ℕ) (w : World) (r : ProcessRecord) (answer : TaskAnswer) (cs : List Change) → MayStart w r → IsSound w
    → TurnGives poll now w r answer cs → GoesWell w cs

-- ---- submissions

-- A submission of any definition, with caching on for any names, keeps a sound world sound.
abbrev pub AnySubmissionKeepsSound : Type 0
AnySubmissionKeepsSound = (w : World) (library : List Definition) (caching : List (List ℕ)) (name : List ℕ) (inputs : Values) (cs : List Change) → IsSound w
    → Submits w library caching name inputs cs → IsAccepted w cs → IsSound (applied w cs)
