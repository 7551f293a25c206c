-- Laws of turns.
use Rattle.std.specs.Prelude.{◌≡◌, ℕ, List, Option, Some}
use Rattle.wc_state.specs.declared.record.ProcessRecord.{ProcessRecord}
use Rattle.wc_world.specs.declared.change.Change.{Change}
use Rattle.wc_world.specs.World.{World}
use Rattle.wc_world.specs.Consistent.{IsConsistent}
use Rattle.wc_world.specs.Records.{find_record}
use Rattle.wc_machine.specs.declared.answer.TaskAnswer.{TaskAnswer}
use Rattle.wc_machine.specs.Ends.{TakesSource}
use Rattle.wc_machine.specs.Turns.{TurnGives}

-- A calculation takes one source, or none.
abbrev pub OneSource : Type 0
OneSource = (w : World) (r : ProcessRecord) (s t : Option ℕ) → TakesSource w r s → TakesSource w r t → s ≡ t

-- In a consistent world a turn has one list of changes at most.
abbrev pub OneListOfChanges : Type 0
OneListOfChanges = (poll now : ℕ) (w : World) (r : ProcessRecord) (a : TaskAnswer) (cs ds : List Change) → IsConsistent w → find_record r.node w.records ≡ Some r
    → TurnGives poll now w r a cs → TurnGives poll now w r a ds → cs ≡ ds
