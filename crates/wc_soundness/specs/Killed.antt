-- The processes at and below one, and the list of those that a kill ends.
use Rattle.std.specs.Prelude.{◌≡◌, ℕ, ◌+◌, ◌<◌, true, List, map, Some, slice_get}
use Rattle.wc_value.specs.declared.process.ProcessState.TheVariants as state
use Rattle.wc_state.specs.declared.record.ProcessRecord.{ProcessRecord}
use Rattle.wc_world.specs.declared.change.Change.{Change}
use Rattle.wc_world.specs.World.{World}
use Rattle.wc_world.specs.Records.{find_record, has_called}
use Rattle.wc_machine.specs.Calls.{fuel_of}
use Rattle.wc_machine.specs.Kills.{awaits_of, fuel_after, kill_changes, killed}
use Rattle.wc_machine.specs.Machine.{IsLive}
use Rattle.wc_machine.specs.Tasks.{saturated}

-- a process, and what it called, directly or through calls
pub data IsAtOrBelow (w : World) (r : ProcessRecord) : ProcessRecord → Type 0 where
  itself : IsAtOrBelow w r r
  called : (x y : ProcessRecord) → IsAtOrBelow w r x → find_record y.node w.records ≡ Some y → has_called w.links x.node y.node ≡ true → IsAtOrBelow w r y

-- the Set with which a process is killed
abbrev pub its_kill : World → ProcessRecord → Change
its_kill w x = killed x (fuel_after 16 w (Some x))

-- A world records that a process, whose record was this one, is killed, with this fuel: its own, and that which the world records of each
-- process that it awaited, each with 1 added.
pub record IsKilledWith (v : World) (x : ProcessRecord) : Type 0 where
  pub process : ProcessRecord
  pub found : find_record x.node v.records ≡ Some process
  pub killed : process.state ≡ state.Killed
  pub fuel : process.fuel ≡ saturated (x.fuel + fuel_of v.records (awaits_of x.part))

-- A kill is one Set for each of these processes and nothing else: they are the live ones at and below this one, none stands twice, and what
-- one of them called stands before it.
pub record KillsEach (w : World) (r : ProcessRecord) (xs : List ProcessRecord) : Type 0 where
  pub changes : kill_changes w r ≡ map (its_kill w) xs
  pub live : (i : ℕ) (x : ProcessRecord) → slice_get xs i ≡ Some x → IsLive w x × IsAtOrBelow w r x
  pub each : (x : ProcessRecord) → IsLive w x → IsAtOrBelow w r x → (i : ℕ) × (slice_get xs i ≡ Some x)
  pub once : (i j : ℕ) (x y : ProcessRecord) → slice_get xs i ≡ Some x → slice_get xs j ≡ Some y → x.node ≡ y.node → i ≡ j
  pub order : (i j : ℕ) (x y : ProcessRecord) → slice_get xs i ≡ Some x → slice_get xs j ≡ Some y → has_called w.links x.node y.node ≡ true → j < i
