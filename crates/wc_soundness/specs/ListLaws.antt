-- Laws of the lists of changes of events.
use Rattle.std.specs.Prelude.{◌≡◌, ◌↔◌, ℕ, true, false, List, [], Option, Some}
use Rattle.wc_state.specs.declared.record.ProcessRecord.{ProcessRecord}
use Rattle.wc_world.specs.declared.change.Change.{Change}
use Rattle.wc_world.specs.World.{World}
use Rattle.wc_world.specs.Applied.{applied}
use Rattle.wc_world.specs.Consistent.{IsConsistent}
use Rattle.wc_world.specs.Records.{find_record}
use Rattle.wc_machine.specs.declared.answer.TaskAnswer.{TaskAnswer}
use Rattle.wc_machine.specs.Questions.{need, fits}
use Rattle.wc_machine.specs.Ends.{TakesSource}
use Rattle.wc_machine.specs.Kills.{kill_changes}
use Rattle.wc_machine.specs.Machine.{Event, submit, turn, pause, play, kill, IsLive, Leads}
use Rattle.wc_machine.specs.Readiness.{is_ready}
use Rattle.wc_machine.specs.Sound.{IsSound}
use Rattle.wc_machine.specs.Turns.{TurnGives}
use Rattle.wc_soundness.specs.Happening.{MayHappen}
use Rattle.wc_soundness.specs.Killed.{IsAtOrBelow, KillsEach, IsKilledWith}

-- In a consistent world each process may take a lowest source, or there is none.
abbrev pub SourcesAreThere : Type 0
SourcesAreThere = (w : World) (r : ProcessRecord) → IsConsistent w → (source : Option ℕ) × TakesSource w r source

-- a list of changes that a turn has, and its only one
pub record IsItsList (poll now : ℕ) (w : World) (r : ProcessRecord) (a : TaskAnswer) (cs : List Change) : Type 0 where
  pub gives : TurnGives poll now w r a cs
  pub only : (ds : List Change) → TurnGives poll now w r a ds → ds ≡ cs

-- A ready process of a consistent world has, with an answer that fits what it asks, exactly one list of changes.
abbrev pub TurnsHaveChanges : Type 0
TurnsHaveChanges = (poll now : ℕ) (w : World) (r : ProcessRecord) (a : TaskAnswer) → IsConsistent w → find_record r.node w.records ≡ Some r
    → is_ready w now r ≡ true → fits (need w r) a ≡ true → (cs : List Change) × IsItsList poll now w r a cs

-- the changes of an event, and its only ones
pub record AreItsChanges (poll : ℕ) (w : World) (e : Event) (cs : List Change) : Type 0 where
  pub leads : Leads poll w e cs
  pub only : (ds : List Change) → Leads poll w e ds → ds ≡ cs

-- In a consistent world there are changes exactly for what may happen, and one list of them.
abbrev pub EventsHaveChanges : Type 0
EventsHaveChanges = (poll : ℕ) (w : World) (e : Event) → IsConsistent w
    → (MayHappen w e ↔ ((cs : List Change) × Leads poll w e cs)) × ((cs : List Change) → Leads poll w e cs → AreItsChanges poll w e cs)

-- The kill of a live process sets each live process at and below it once, the called ones first, and does nothing else.
abbrev pub KillsSetEachOnce : Type 0
KillsSetEachOnce = (w : World) (r : ProcessRecord) → IsSound w → IsLive w r → (xs : List ProcessRecord) × KillsEach w r xs

-- Each process that it kills is recorded as killed, and keeps its own fuel and, where it is a chain that waits, the fuel that is then recorded
-- of each process that it awaited, each with 1 added.
abbrev pub KilledFuelIsKept : Type 0
KilledFuelIsKept = (w : World) (r x : ProcessRecord) → IsSound w → IsLive w r → IsLive w x → IsAtOrBelow w r x → IsKilledWith (applied w (kill_changes w r)) x

-- the event is a pause of a process that is paused, or a play of one that isn't
abbrev pub ChangesNothing : World → Event → Type 0
ChangesNothing w (submit library caching name inputs) = ⊥
ChangesNothing w (turn pid a now) = ⊥
ChangesNothing w (pause pid) = (r : ProcessRecord) × (find_record pid w.records ≡ Some r) × (r.paused ≡ true)
ChangesNothing w (play pid) = (r : ProcessRecord) × (find_record pid w.records ≡ Some r) × (r.paused ≡ false)
ChangesNothing w (kill pid) = ⊥

-- An event has no changes exactly where it is such a one: a submission, a turn and a kill always have some.
abbrev pub OnlyMarksChangeNothing : Type 0
OnlyMarksChangeNothing = (poll : ℕ) (w : World) (e : Event) (cs : List Change) → Leads poll w e cs → (cs ≡ []) ↔ ChangesNothing w e
