-- Pause marks, and counts of failures.
use Rattle.std.specs.Prelude.{◌≡◌, ◌≤◌, ℕ, Bool, true, false, Option, Some, None}
use Rattle.wc_state.specs.declared.record.Part.{Part}
use Rattle.wc_state.specs.declared.record.Part.TheVariants as part
use Rattle.wc_state.specs.declared.record.ProcessRecord.{ProcessRecord}
use Rattle.wc_world.specs.World.{World}
use Rattle.wc_world.specs.Records.{find_record}

-- how often the task of a job has failed in a row
abbrev pub fails_in : Part → ℕ
fails_in part.Fresh = 0
fails_in (part.Chain c) = 0
fails_in (part.Job j) = j.fails
fails_in part.Over = 0

-- whether a process is there and has the pause mark
abbrev pub is_paused : Option ProcessRecord → Bool
is_paused None = false
is_paused (Some r) = r.paused

-- how often a job's task failed in a row, 0 where there is no job
abbrev pub fails_of : Option ProcessRecord → ℕ
fails_of None = 0
fails_of (Some r) = fails_in r.part

-- A process has no pause mark that it hadn't, and has failed no more often in a row.
pub record IsNoWorse (old new : Option ProcessRecord) : Type 0 where
  pub paused : is_paused new ≡ true → is_paused old ≡ true
  pub fails : fails_of new ≤ fails_of old

-- so is each process of a later world; one that wasn't there had no mark and no failure
abbrev pub AreNoWorse : World → World → Type 0
AreNoWorse w v = (pid : ℕ) → IsNoWorse (find_record pid w.records) (find_record pid v.records)
