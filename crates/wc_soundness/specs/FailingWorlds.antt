-- A called job whose upload fails five times in a row, and which is then played.
use Rattle.std.specs.Prelude.{ℕ, Bool, false, List, [], ◌∷◌, None, codes}
use Rattle.wc_value.specs.declared.process.ProcessState.TheVariants as state
use Rattle.wc_state.specs.declared.record.JobPart.{JobPart}
use Rattle.wc_state.specs.declared.record.Part.TheVariants as part
use Rattle.wc_state.specs.declared.record.ProcessKind.TheVariants as kind
use Rattle.wc_state.specs.declared.record.ProcessRecord.{ProcessRecord}
use Rattle.wc_state.specs.declared.record.Task.TheVariants as task
use Rattle.wc_world.specs.World.{World}
use Rattle.wc_world.specs.declared.change.Change.{Change}
use Rattle.wc_world.specs.declared.change.Change.TheVariants as change
use Rattle.wc_soundness.specs.FanWorlds.{world, called_nodes, called_links, fan_waits, fresh, first_job, two}

-- the upload after so many failures, from this moment on
abbrev pub upload : (fails due : ℕ) → JobPart
upload fails due = record { task = task.Upload; fails = fails; due = due }

-- the record of the job after so many failures
abbrev pub tries : (fails due : ℕ) → (paused : Bool) → ProcessRecord
tries fails due paused = record {
  node = 5;
  kind = kind.Job;
  definition = codes "double";
  library = 1;
  depth = 2;
  label = two;
  caching = false;
  state = state.Waiting;
  paused = paused;
  cached_from = None;
  fuel = 0;
  code = None;
  started = 3;
  ended = 0;
  part = part.Job (upload fails due);
}

-- the world after so many failures
abbrev pub after_failures : (fails due : ℕ) → (paused : Bool) → ℕ → World
after_failures fails due paused batches = world called_nodes called_links (fan_waits ∷ (fresh first_job ∷ (tries fails due paused ∷ []))) batches

-- the changes that leave the job with so many failures
abbrev pub to_try : (fails due : ℕ) → (paused : Bool) → List Change
to_try fails due paused =
    change.Set (record { pid = 5; state = state.Waiting; paused = paused; cached_from = 0; fuel = 0; code = None; part = part.Job (upload fails due) }) ∷ []
