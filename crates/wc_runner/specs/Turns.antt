-- What a turn is made ready as before a store calls its disks.
use Rattle.std.specs.Prelude.{◌≡◌, ℕ, true, List}
use Rattle.wc_state.specs.declared.record.Limits.{Limits}
use Rattle.wc_world.specs.declared.change.Change.{Change}
use Rattle.wc_world.specs.World.{World}
use Rattle.wc_world.specs.Accepted.{IsAccepted}
use Rattle.wc_machine.specs.declared.answer.TaskAnswer.{TaskAnswer}
use Rattle.wc_machine.specs.Machine.{Leads, turn}
use Rattle.wc_machine.specs.Refusals.{FullOf, HasRoom}
use Rattle.wc_machine.specs.declared.error.TurnError.{TurnError}
use Rattle.wc_machine.specs.declared.error.TurnError.TheVariants as turn_error
use Rattle.wc_store.specs.Held.{is_plain}
use Rattle.wc_store.specs.declared.error.StoreError.{StoreError}
use Rattle.wc_store.specs.declared.error.StoreError.TheVariants as store_error
use Rattle.wc_world.specs.Applied.{applied}
use Rattle.wc_runner.specs.Outside.{Outside}
use Rattle.wc_runner.specs.Trips.{IsTurn}
use Rattle.wc_runner.specs.declared.error.RunError.{RunError}
use Rattle.wc_runner.specs.declared.error.RunError.TheVariants.{DiskFault, Full, OutOfMemory}

-- The changes are those of the process's turn with this answer at this moment, and a store may commit them.
pub record IsReady (limits : Limits) (w : World) (pid : ℕ) (a : TaskAnswer) (now : ℕ) (cs : List Change) : Type 0 where
  pub leads : Leads limits.poll_ms w (turn pid a now) cs
  pub accepted : IsAccepted w cs
  pub plain : is_plain cs ≡ true
  pub room : HasRoom limits.max_nodes (applied w cs)

-- The changes are those of the process's turn, and a store may commit them.
pub record IsPrepared (o : Outside) (pid : ℕ) (w : World) (cs : List Change) : Type 0 where
  pub turn : IsTurn o pid w cs
  pub accepted : IsAccepted w cs
  pub plain : is_plain cs ≡ true
  pub room : HasRoom o.limits.max_nodes (applied w cs)

-- the turn is refused before any disk is called
abbrev pub RefusesChanges : Limits → World → (pid : ℕ) → TaskAnswer → (now : ℕ) → RunError → Type 0
RefusesChanges limits w pid a now DiskFault = ⊥
RefusesChanges limits w pid a now (Full what count limit) = FullOf (Leads limits.poll_ms w (turn pid a now)) limits.max_nodes w (turn_error.Full what count limit)
RefusesChanges limits w pid a now OutOfMemory = Unit {0}

-- a turn of a ready process is refused for fullness or want of memory alone
abbrev pub IsRoomOrMemory : TurnError → Type 0
IsRoomOrMemory turn_error.NotReady = ⊥
IsRoomOrMemory (turn_error.Full what count limit) = Unit {0}
IsRoomOrMemory turn_error.UnknownProcess = ⊥
IsRoomOrMemory (turn_error.Ended state) = ⊥
IsRoomOrMemory turn_error.UnknownName = ⊥
IsRoomOrMemory (turn_error.BadInputs port) = ⊥
IsRoomOrMemory turn_error.OutOfMemory = Unit {0}

-- what a run tells of a turn's refusal
abbrev pub of_turn : TurnError → RunError
of_turn turn_error.NotReady = OutOfMemory
of_turn (turn_error.Full what count limit) = Full what count limit
of_turn turn_error.UnknownProcess = OutOfMemory
of_turn (turn_error.Ended state) = OutOfMemory
of_turn turn_error.UnknownName = OutOfMemory
of_turn (turn_error.BadInputs port) = OutOfMemory
of_turn turn_error.OutOfMemory = OutOfMemory

-- a commit is refused neither for damage nor for a store that is there
abbrev pub IsOfCommit : StoreError → Type 0
IsOfCommit store_error.DiskFault = Unit {0}
IsOfCommit (store_error.Damaged disk at found) = ⊥
IsOfCommit (store_error.Full what count limit) = Unit {0}
IsOfCommit store_error.AlreadyThere = ⊥
IsOfCommit store_error.OutOfMemory = Unit {0}

-- what a run tells of a commit's refusal
abbrev pub of_store : StoreError → RunError
of_store store_error.DiskFault = DiskFault
of_store (store_error.Damaged disk at found) = OutOfMemory
of_store (store_error.Full what count limit) = Full what count limit
of_store store_error.AlreadyThere = OutOfMemory
of_store store_error.OutOfMemory = OutOfMemory
