-- Which processes of a world are ready for a turn.
use Rattle.std.specs.Prelude.{ℕ, Bool, List}
use Rattle.wc_value.specs.declared.process.ProcessState.{ProcessState}
use Rattle.wc_state.specs.declared.record.Part.{Part}
use Rattle.wc_state.specs.declared.record.ProcessRecord.{ProcessRecord}
use Rattle.wc_records.specs.Readiness as records
pub use Rattle.wc_records.specs.Readiness.{is_over, ended_at}
use Rattle.wc_world.specs.World.{World}

-- a job is asked about from its due moment on, and a work chain goes on when each child that it awaits has ended
abbrev pub is_through : World → ℕ → Part → Bool
is_through w now p = records.is_through w.records now p

-- whether a process in this state, with this part, may take a turn at a moment
abbrev pub may_go : World → ℕ → ProcessState → Part → Bool
may_go w now s p = records.may_go w.records now s p

-- A process is ready at a moment: it isn't paused, and it is created, or running, or has waited for long enough.
abbrev pub is_ready : World → ℕ → ProcessRecord → Bool
is_ready w now r = records.is_ready w.records now r

-- the numbers of the ready processes, ascending
abbrev pub ready_at : World → ℕ → List ℕ
ready_at w now = records.ready_at w.records now
