-- Worlds in which the record of one process is set anew.
use Rattle.std.specs.Prelude.{◌≡◌, ◌≢◌, ℕ, ◌+◌, ◌<◌, ◌≤◌, false, true, length, Some, None}
use Rattle.wc_value.specs.declared.process.ProcessState.{ProcessState}
use Rattle.wc_value.specs.declared.process.ProcessState.TheVariants as state
use Rattle.wc_state.specs.declared.record.Part.{Part}
use Rattle.wc_state.specs.declared.record.ProcessRecord.{ProcessRecord}
use Rattle.wc_records.specs.declared.change.SetProcess.{SetProcess}
use Rattle.wc_world.specs.World.{World}
use Rattle.wc_world.specs.Applied.{set, started_in}
use Rattle.wc_world.specs.Fits.{part_fits, fails_fit, standing_fits, is_settled}
use Rattle.wc_world.specs.Records.{find_record, at_process, has_ended, is_calculation}
use Rattle.wc_machine.specs.Created.{IsGiven}
use Rattle.wc_machine.specs.Rest.{IsOnTrack}
use Rattle.wc_machine.specs.Sound.{AllDiffer, awaited_numbers, OutputsAscend, is_job_part, CallsAreKept, AwaitsLastCalls, NamesKnown, IsMeant, IsSound, KeepsFew, fuel_in}

-- a process is set to a state with this fuel and part; it isn't paused, took no other's outcome, and has no exit code
abbrev pub set_to : ProcessRecord → ProcessState → ℕ → Part → SetProcess
set_to r s fuel p = record { pid = r.node; state = s; paused = false; cached_from = 0; fuel = fuel; code = None; part = p }

-- its record then, where it is set in this batch
abbrev pub record_to : ℕ → ProcessRecord → ProcessState → ℕ → Part → ProcessRecord
record_to batch r s fuel p = set batch (set_to r s fuel p) r

-- and the world, which tells of so many batches
abbrev pub world_to : World → ℕ → ProcessRecord → ProcessState → ℕ → Part → World
world_to w batch r s fuel p = record {
  nodes = w.nodes;
  links = w.links;
  records = at_process r.node (set batch (set_to r s fuel p)) w.records;
  libraries = w.libraries;
  batches = batch;
}

-- A live process is set in a batch that isn't before those of the world.
pub record IsSet (w : World) (batch : ℕ) (r : ProcessRecord) (s : ProcessState) : Type 0 where
  pub found : find_record r.node w.records ≡ Some r
  pub live : has_ended r.state ≡ false
  pub later : w.batches ≤ batch
  pub first : 0 < batch
  pub few : batch ≤ 4000000000
  -- it isn't set to created, it doesn't start, and it doesn't finish
  pub begun : s ≢ state.Created
  pub start : started_in batch r s ≡ r.started
  pub unfinished : (n : ℕ) → s ≢ state.Finished n

-- What the process is set to fits it, and of itself it is as it is in a sound world; and no more fuel is kept than may be.
pub record SetsWell (w : World) (batch : ℕ) (r : ProcessRecord) (s : ProcessState) (fuel : ℕ) (p : Part) : Type 0 where
  pub part : part_fits r.kind s p ≡ true
  pub fails : fails_fit p false ≡ true
  pub standing : standing_fits w r p ≡ true
  pub settled : is_settled w.links (record_to batch r s fuel p) ≡ true
  pub no_job : is_job_part p ≡ false
  pub awaiting : AllDiffer (awaited_numbers p)
  pub outputs : OutputsAscend p
  pub given : is_calculation r.kind ≡ true → has_ended s ≡ true → IsGiven (world_to w batch r s fuel p) (record_to batch r s fuel p)
  pub calls : CallsAreKept (world_to w batch r s fuel p) (record_to batch r s fuel p)
  pub awaits : AwaitsLastCalls (world_to w batch r s fuel p) (record_to batch r s fuel p) p
  pub names : NamesKnown (world_to w batch r s fuel p) (record_to batch r s fuel p) p
  pub live : has_ended s ≡ false → IsOnTrack (world_to w batch r s fuel p) (record_to batch r s fuel p)
  pub meant : has_ended s ≡ true → IsMeant (world_to w batch r s fuel p) (record_to batch r s fuel p)
  pub few : has_ended s ≡ true → KeepsFew (record_to batch r s fuel p)
  pub kept : fuel_in (world_to w batch r s fuel p).records (world_to w batch r s fuel p).records ≤ batch + length w.nodes

-- A world is sound where a process of a sound world is set so.
abbrev pub SetsKeepSound : Type 0
SetsKeepSound = (w : World) (batch : ℕ) (r : ProcessRecord) (s : ProcessState) (fuel : ℕ) (p : Part) → IsSound w → IsSet w batch r s → SetsWell w batch r s fuel p
    → IsSound (world_to w batch r s fuel p)
