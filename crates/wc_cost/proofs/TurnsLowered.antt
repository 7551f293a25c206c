-- Each turn whose task doesn't fail and whose program has ended lowers what is left.
use Rattle.std.proofs.Common.{◌≡◌, ℕ, true, List, Option, Some, refl}
use Rattle.wc_value.specs.declared.process.JobResult.{JobResult}
use Rattle.wc_value.specs.declared.process.Request.{Request}
use Rattle.wc_syntax.specs.declared.definition.Chain.{Chain}
use Rattle.wc_syntax.specs.declared.definition.Definition.{Definition}
use Rattle.wc_syntax.specs.declared.definition.Definition.TheVariants as definition
use Rattle.wc_state.specs.declared.environment.Env.{Env}
use Rattle.wc_state.specs.declared.record.Checkpoint.{Checkpoint}
use Rattle.wc_state.specs.declared.record.ProcessRecord.{ProcessRecord}
use Rattle.wc_world.specs.declared.change.Change.{Change}
use Rattle.wc_world.specs.Accepted.{IsAccepted}
use Rattle.wc_world.specs.Applied.{applied}
use Rattle.wc_world.specs.Records.{find_record, is_calculation}
use Rattle.wc_world.specs.World.{World}
use Rattle.wc_machine.specs.declared.answer.TaskAnswer.{TaskAnswer}
use Rattle.wc_machine.specs.Advances.{Advanced, goes, loops, submits, ends, advance}
use Rattle.wc_machine.specs.Agreement.{AgreesWithWorld}
use Rattle.wc_machine.specs.Calls.{advanced}
use Rattle.wc_machine.specs.Machine as machine
use Rattle.wc_machine.specs.Machine.{Event, Leads}
use Rattle.wc_machine.specs.Readiness.{is_ready}
use Rattle.wc_machine.specs.Sound.{IsSound}
use Rattle.wc_machine.specs.Turns.{TurnGives, calculates, clones, begins, excepts, gives_up, moves, parses, advances, binds}
use Rattle.wc_soundness.specs.TrackLaws.{IsAtTurn}
use Rattle.wc_soundness.proofs.EventTurns.{function_calculates, job_calculates, of_kind}
use Rattle.wc_cost.specs.Left.{IsLeft, by_request}
use Rattle.wc_cost.specs.Turns.{IsCalm, LeavesLess, TurnsLower}
use Rattle.wc_cost.proofs.Bound.{bindings_lower}
use Rattle.wc_cost.proofs.CalculationsLowered.{calculation_turns_lower}
use Rattle.wc_cost.proofs.CallsLowered.{calls_lower}
use Rattle.wc_cost.proofs.ChainsLowered.{advance_lowers}

module _ (results : Request → Option JobResult) (poll now : ℕ) (w : World) (r : ProcessRecord) (total : ℕ) (sound : IsSound w)
    (agrees : AgreesWithWorld (by_request results) w) (found : find_record r.node w.records ≡ Some r) (ready : is_ready w now r ≡ true) (rest : IsLeft results w total) where
  abbrev Less : List Change → Type 0
  Less cs = LeavesLess results r.node (applied w cs) total

  calculation_less : (a : TaskAnswer) (cs : List Change) → is_calculation r.kind ≡ true → TurnGives poll now w r a cs → IsCalm a → Less cs
  calculation_less a cs calculation gives calm = calculation_turns_lower results poll now w r a cs total sound found calculation gives calm rest

  chain_less : (k : Chain) (library : List Definition) (c : Checkpoint) (env : Env) → IsAtTurn w r k library c env → (x : Advanced) → advance library k r.depth env c ≡ x
      → IsAccepted w (advanced w r k.head.outputs x) → Less (advanced w r k.head.outputs x)
  chain_less k library c env at (goes d) e accepted = advance_lowers results w r k library c env at total rest (goes d) e tt
  chain_less k library c env at (loops d) e accepted = advance_lowers results w r k library c env at total rest (loops d) e tt
  chain_less k library c env at (submits d calls) e accepted = calls_lower results w r k library c d env total calls at e accepted rest
  chain_less k library c env at (ends s outputs) e accepted = advance_lowers results w r k library c env at total rest (ends s outputs) e tt

  turn_less : (a : TaskAnswer) (cs : List Change) → TurnGives poll now w r a cs → IsAccepted w cs → IsCalm a → Less cs
  turn_less a cs (calculates f d new takes) accepted calm =
      calculation_less a cs (function_calculates f r.kind (of_kind poll now w r sound found (definition.Function f) d)) (calculates f d new takes) calm
  turn_less a cs (clones q one new takes there) accepted calm = calculation_less a cs one (clones q one new takes there) calm
  turn_less a cs (begins j q d new takes asked) accepted calm =
      calculation_less a cs (job_calculates j r.kind (of_kind poll now w r sound found (definition.Job j) d)) (begins j q d new takes asked) calm
  turn_less a cs (excepts j reason d new takes asked) accepted calm =
      calculation_less a cs (job_calculates j r.kind (of_kind poll now w r sound found (definition.Job j) d)) (excepts j reason d new takes asked) calm
  turn_less a cs (gives_up j p reason d at asked) accepted calm =
      calculation_less a cs (job_calculates j r.kind (of_kind poll now w r sound found (definition.Job j) d)) (gives_up j p reason d at asked) calm
  turn_less a cs (moves j p q answer m d at asked next) accepted calm =
      calculation_less a cs (job_calculates j r.kind (of_kind poll now w r sound found (definition.Job j) d)) (moves j p q answer m d at asked next) calm
  turn_less a cs (parses j p q result d at asked is) accepted calm =
      calculation_less a cs (job_calculates j r.kind (of_kind poll now w r sound found (definition.Job j) d)) (parses j p q result d at asked is) calm
  turn_less a cs (advances k library c env d there at e) accepted calm =
      chain_less k library c env (record { sound = sound; found = found; definition = d; library_there = there; stands = at; environment = e })
      (advance library k r.depth env c) refl accepted
  turn_less a cs (binds k c d waiting is) accepted calm = bindings_lower results now w r k c total sound agrees found ready d waiting is accepted rest

-- what is said of an event that is a turn
abbrev LessAfter : (Request → Option JobResult) → World → Event → List Change → ℕ → Type 0
LessAfter results w (machine.submit library caching name inputs) cs total = Unit {0}
LessAfter results w (machine.turn pid a now) cs total = IsCalm a → LeavesLess results pid (applied w cs) total
LessAfter results w (machine.pause pid) cs total = Unit {0}
LessAfter results w (machine.play pid) cs total = Unit {0}
LessAfter results w (machine.kill pid) cs total = Unit {0}

event_less : (results : Request → Option JobResult) (poll : ℕ) (w : World) (e : Event) (cs : List Change) (total : ℕ) → IsSound w → AgreesWithWorld (by_request results) w
    → Leads poll w e cs → IsAccepted w cs → IsLeft results w total → LessAfter results w e cs total
event_less results poll w e cs total sound agrees (machine.submits library caching name inputs ds s) accepted rest = tt
event_less results poll w e cs total sound agrees (machine.turns r a now ds found ready gives) accepted rest =
    λ calm. turn_less results poll now w r total sound agrees found ready rest a ds gives accepted calm
event_less results poll w e cs total sound agrees (machine.pauses r live) accepted rest = tt
event_less results poll w e cs total sound agrees (machine.plays r live) accepted rest = tt
event_less results poll w e cs total sound agrees (machine.kills r live) accepted rest = tt

pub turns_lower : TurnsLower
turns_lower results poll now pid a w cs total sound agrees leads accepted calm rest =
    event_less results poll w (machine.turn pid a now) cs total sound agrees leads accepted rest calm
