-- Laws of kills.
use Rattle.std.specs.Prelude.{◌≡◌, ℕ, ◌+◌, ◌<◌, ◌≤◌, true, length, Some}
use Rattle.wc_value.specs.declared.process.ProcessState.TheVariants as state
use Rattle.wc_state.specs.declared.record.Part.TheVariants as part
use Rattle.wc_state.specs.declared.record.ProcessRecord.{ProcessRecord}
use Rattle.wc_world.specs.World.{World}
use Rattle.wc_world.specs.Records.{find_record, has_ended, has_called}
use Rattle.wc_machine.specs.Calls.{fuel_of}
use Rattle.wc_machine.specs.Kills.{awaits_of, kill_changes}
use Rattle.wc_machine.specs.Laws.{HasPlaces}
use Rattle.wc_machine.specs.Machine.{IsLive}
use Rattle.wc_machine.specs.Sound.{IsSound}
use Rattle.wc_machine.specs.Tasks.{saturated}
use Rattle.wc_soundness.specs.Replaced.{world_to}
use Rattle.wc_soundness.specs.BindingLaws.{KeepsSound}

-- what the process has called has ended
abbrev pub HasEndedCalls : World → ProcessRecord → Type 0
HasEndedCalls w r = (q : ProcessRecord) → find_record q.node w.records ≡ Some q → has_called w.links r.node q.node ≡ true → has_ended q.state ≡ true

-- there is a batch for it, which isn't before those of the world
pub record IsBatch (w : World) (batch : ℕ) : Type 0 where
  pub first : 0 < batch
  pub later : w.batches ≤ batch
  pub few : batch ≤ 4000000000

-- the fuel of a killed process whose calls have ended: a waiting chain gets that of the children that it awaits, each with 1 added
abbrev pub killed_fuel : World → ProcessRecord → ℕ
killed_fuel w r = saturated (r.fuel + fuel_of w.records (awaits_of r.part))

-- One live process is killed whose calls have ended, in any batch that may come: a sound world stays sound. A kill is a list of such ones in
-- one batch.
abbrev pub SingleKillsKeepSound : Type 0
SingleKillsKeepSound = (w : World) (batch : ℕ) (r : ProcessRecord) → IsSound w → IsLive w r → HasEndedCalls w r → IsBatch w batch
    → IsSound (world_to w batch r state.Killed (killed_fuel w r) part.Over)

-- The kill of any live process keeps a sound world sound, where there is room for a batch.
abbrev pub KillsKeepSound : Type 0
KillsKeepSound = (w : World) (r : ProcessRecord) → IsSound w → IsLive w r → HasPlaces w (length w.nodes) → KeepsSound w (kill_changes w r)
