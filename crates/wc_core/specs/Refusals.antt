-- Why an event of a process is refused, and why what it asks isn't told.
use Rattle.std.specs.Prelude.{◌≡◌, ℕ, false, List, None}
use Rattle.wc_world.specs.declared.change.Change.{Change}
use Rattle.wc_world.specs.World.{World}
use Rattle.wc_world.specs.Records.{find_record}
use Rattle.wc_machine.specs.declared.answer.TaskAnswer.{TaskAnswer}
use Rattle.wc_machine.specs.Machine.{Event, turn, Leads}
use Rattle.wc_soundness.specs.ListLaws.{AreItsChanges}
use Rattle.wc_machine.specs.Refusals.{FullOf, FullOfBatches, HasEndedAs}
use Rattle.wc_machine.specs.declared.error.TurnError.{TurnError}
use Rattle.wc_machine.specs.declared.error.TurnError.TheVariants as error
use Rattle.wc_core.specs.Ready.{is_ready_at}

-- What a process asks isn't told where there is no such process. Want of memory may come at any time.
abbrev pub RefusesNeed : World → (pid : ℕ) → TurnError → Type 0
RefusesNeed w pid error.NotReady = ⊥
RefusesNeed w pid (error.Full what count limit) = ⊥
RefusesNeed w pid error.UnknownProcess = find_record pid w.records ≡ None
RefusesNeed w pid (error.Ended s) = ⊥
RefusesNeed w pid error.UnknownName = ⊥
RefusesNeed w pid (error.BadInputs port) = ⊥
RefusesNeed w pid error.OutOfMemory = Unit {0}

-- The turn is refused so: the process isn't ready, else the world after it would have more than so many nodes, else it would have too
-- many batches. Want of memory may come at any time.
abbrev pub RefusesTurn : (poll : ℕ) → World → (pid : ℕ) → TaskAnswer → (now most : ℕ) → TurnError → Type 0
RefusesTurn poll w pid a now most error.NotReady = is_ready_at w pid now ≡ false
RefusesTurn poll w pid a now most (error.Full what count limit) = FullOf (Leads poll w (turn pid a now)) most w (error.Full what count limit)
RefusesTurn poll w pid a now most error.UnknownProcess = ⊥
RefusesTurn poll w pid a now most (error.Ended s) = ⊥
RefusesTurn poll w pid a now most error.UnknownName = ⊥
RefusesTurn poll w pid a now most (error.BadInputs port) = ⊥
RefusesTurn poll w pid a now most error.OutOfMemory = Unit {0}

-- the changes of an event, however often jobs are polled, and its only ones
abbrev pub AreChangesOf : World → Event → List Change → Type 0
AreChangesOf w e cs = (poll : ℕ) → AreItsChanges poll w e cs

-- A pause, a play or a kill of a process is refused so: there is none with the number, else it has ended, else a batch more is one too many,
-- where there are changes. Want of memory may come at any time.
abbrev pub RefusesMark : World → Event → (pid : ℕ) → TurnError → Type 0
RefusesMark w e pid error.NotReady = ⊥
RefusesMark w e pid (error.Full what count limit) = FullOfBatches (AreChangesOf w e) w (error.Full what count limit)
RefusesMark w e pid error.UnknownProcess = find_record pid w.records ≡ None
RefusesMark w e pid (error.Ended s) = HasEndedAs w pid s
RefusesMark w e pid error.UnknownName = ⊥
RefusesMark w e pid (error.BadInputs port) = ⊥
RefusesMark w e pid error.OutOfMemory = Unit {0}
