-- Whether the process with a number is ready.
use Rattle.std.specs.Prelude.{ℕ, Bool, Option}
use Rattle.wc_state.specs.declared.record.ProcessRecord.{ProcessRecord}
use Rattle.wc_records.specs.Ready as records
use Rattle.wc_world.specs.World.{World}

-- whether a record is there and is ready at a moment
abbrev pub is_ready_by : World → ℕ → Option ProcessRecord → Bool
is_ready_by w now o = records.is_ready_by w.records now o

-- there is a process with this number, and it is ready at the moment
abbrev pub is_ready_at : World → (pid now : ℕ) → Bool
is_ready_at w pid now = records.is_ready_at w.records pid now
