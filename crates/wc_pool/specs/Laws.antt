-- What the turn of a process leaves of the others.
use Rattle.std.specs.Prelude.{◌≡◌, ◌≢◌, ℕ, List, Some}
use Rattle.wc_state.specs.declared.record.ProcessRecord.{ProcessRecord}
use Rattle.wc_world.specs.declared.change.Change.{Change}
use Rattle.wc_world.specs.World.{World}
use Rattle.wc_world.specs.Accepted.{IsReached}
use Rattle.wc_world.specs.Applied.{applied}
use Rattle.wc_world.specs.Records.{find_record}
use Rattle.wc_machine.specs.declared.answer.TaskAnswer.{TaskAnswer}
use Rattle.wc_machine.specs.Machine.{Leads, turn}
use Rattle.wc_machine.specs.Questions.{need}

-- The turn of a process leaves the record of each other one, and what that one needs of the transport, on each world that accepted changes
-- make, sound or not.
abbrev pub TurnsLeaveOthers : Type 0
TurnsLeaveOthers = (poll : ℕ) (w : World) (pid now : ℕ) (a : TaskAnswer) (cs : List Change) → IsReached w → Leads poll w (turn pid a now) cs
    → (r : ProcessRecord) → find_record r.node w.records ≡ Some r → r.node ≢ pid
    → (find_record r.node (applied w cs).records ≡ Some r) × (need (applied w cs) r ≡ need w r)
