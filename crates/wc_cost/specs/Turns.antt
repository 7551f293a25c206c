-- How a turn lowers what is left of a world.
use Rattle.std.specs.Prelude.{◌≡◌, ℕ, suc, ◌<◌, true, List, Option, Some, None}
use Rattle.wc_value.specs.declared.process.JobResult.{JobResult}
use Rattle.wc_value.specs.declared.process.Request.{Request}
use Rattle.wc_state.specs.declared.record.ProcessRecord.{ProcessRecord}
use Rattle.wc_world.specs.declared.change.Change.{Change}
use Rattle.wc_world.specs.Applied.{applied}
use Rattle.wc_world.specs.Records.{find_record, is_calculation}
use Rattle.wc_world.specs.World.{World}
use Rattle.wc_machine.specs.declared.answer.TaskAnswer.{TaskAnswer}
use Rattle.wc_machine.specs.declared.answer.TaskAnswer.TheVariants as answer
use Rattle.wc_machine.specs.Sound.{IsSound}
use Rattle.wc_machine.specs.Turns.{TurnGives}
use Rattle.wc_syntax.specs.declared.definition.Chain.{Chain}
use Rattle.wc_syntax.specs.declared.definition.Definition.{Definition}
use Rattle.wc_state.specs.declared.environment.Env.{Env}
use Rattle.wc_state.specs.declared.record.Checkpoint.{Checkpoint}
use Rattle.wc_machine.specs.Advances.{Advanced, goes, loops, submits, ends, advance}
use Rattle.wc_machine.specs.Calls.{advanced}
use Rattle.wc_value.specs.declared.process.ProcessState.TheVariants as state
use Rattle.wc_syntax.specs.declared.definition.Definition.TheVariants as definition
use Rattle.wc_state.specs.declared.record.Part.TheVariants as part
use Rattle.wc_world.specs.Accepted.{IsAccepted}
use Rattle.wc_machine.specs.Agreement.{AgreesWithWorld}
use Rattle.wc_machine.specs.Machine.{Leads, turn}
use Rattle.wc_machine.specs.Readiness.{is_ready}
use Rattle.wc_machine.specs.Recorded.{its_definition}
use Rattle.wc_machine.specs.Steps.{Call}
use Rattle.wc_soundness.specs.BindingLaws.{binding}
use Rattle.wc_soundness.specs.TrackLaws.{IsAtTurn}
use Rattle.wc_cost.specs.Left.{IsLeft, by_request}

-- neither a failure nor a program that runs on
abbrev pub IsCalm : TaskAnswer → Type 0
IsCalm answer.Nothing = Unit {0}
IsCalm answer.Done = Unit {0}
IsCalm answer.Running = ⊥
IsCalm answer.Failed = ⊥
IsCalm (answer.Result r) = Unit {0}

-- the process took no outcome of another
abbrev pub TakesNoClones : ℕ → World → Type 0
TakesNoClones pid v = (r : ProcessRecord) → find_record pid v.records ≡ Some r → r.cached_from ≡ None

-- Less is left of the world than so many turns, and exactly one less where the process took no outcome of another.
abbrev pub LeavesLess : (Request → Option JobResult) → ℕ → World → ℕ → Type 0
LeavesLess results pid v k = (m : ℕ) × IsLeft results v m × (m < k) × (TakesNoClones pid v → k ≡ suc m)

-- The turn of a ready function or job of a sound world lowers what is left of it, where its task doesn't fail and its program has ended.
abbrev pub CalculationTurnsLower : Type 0
CalculationTurnsLower = (results : Request → Option JobResult) (poll now : ℕ) (w : World) (r : ProcessRecord) (a : TaskAnswer) (cs : List Change) (k : ℕ) → IsSound w
    → find_record r.node w.records ≡ Some r → is_calculation r.kind ≡ true → TurnGives poll now w r a cs → IsCalm a → IsLeft results w k
    → LeavesLess results r.node (applied w cs) k

-- the advance submits no calls
abbrev pub SubmitsNone : Advanced → Type 0
SubmitsNone (goes d) = Unit {0}
SubmitsNone (loops d) = Unit {0}
SubmitsNone (submits d calls) = ⊥
SubmitsNone (ends s outputs) = Unit {0}

-- So does the turn of a work chain that is created or runs, where it submits no calls: it goes on, a loop turns, or it ends.
abbrev pub AdvancesLower : Type 0
AdvancesLower = (results : Request → Option JobResult) (w : World) (r : ProcessRecord) (k : Chain) (library : List Definition) (c : Checkpoint) (env : Env) (total : ℕ)
    → IsAtTurn w r k library c env → SubmitsNone (advance library k r.depth env c) → IsLeft results w total
    → LeavesLess results r.node (applied w (advanced w r k.head.outputs (advance library k r.depth env c))) total

-- So it does where it submits calls: what they cost is what the called processes owe.
abbrev pub CallsLower : Type 0
CallsLower = (results : Request → Option JobResult) (w : World) (r : ProcessRecord) (k : Chain) (library : List Definition) (c d : Checkpoint) (env : Env) (total : ℕ)
    (calls : List Call) → IsAtTurn w r k library c env → advance library k r.depth env c ≡ submits d calls → IsAccepted w (advanced w r k.head.outputs (submits d calls))
    → IsLeft results w total → LeavesLess results r.node (applied w (advanced w r k.head.outputs (submits d calls))) total

-- And so does the turn of one that waits and is ready, which binds its children, where the results agree with what is recorded.
abbrev pub BindingsLower : Type 0
BindingsLower = (results : Request → Option JobResult) (now : ℕ) (w : World) (r : ProcessRecord) (k : Chain) (c : Checkpoint) (total : ℕ) → IsSound w
    → AgreesWithWorld (by_request results) w → find_record r.node w.records ≡ Some r → is_ready w now r ≡ true → its_definition w r ≡ Some (definition.Chain k)
    → r.state ≡ state.Waiting → r.part ≡ part.Chain c → IsAccepted w (binding w r c) → IsLeft results w total
    → LeavesLess results r.node (applied w (binding w r c)) total

-- Each turn of a ready process lowers what is left of a sound world, where its task doesn't fail, its program has ended and the results agree
-- with what is recorded: by exactly one, or by more where it takes another's outcome.
abbrev pub TurnsLower : Type 0
TurnsLower = (results : Request → Option JobResult) (poll now pid : ℕ) (a : TaskAnswer) (w : World) (cs : List Change) (total : ℕ) → IsSound w
    → AgreesWithWorld (by_request results) w → Leads poll w (turn pid a now) cs → IsAccepted w cs → IsCalm a → IsLeft results w total
    → LeavesLess results pid (applied w cs) total
