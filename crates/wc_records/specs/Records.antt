-- Looking up records of processes.
use Rattle.std.specs.Prelude.{ℕ, Bool, true, false, ◌==◌, if◌then◌else◌, List, [], ◌∷◌, map, Option, Some, None}
use Rattle.wc_value.specs.declared.process.ProcessState.{ProcessState}
use Rattle.wc_value.specs.declared.process.ProcessState.TheVariants as state
use Rattle.wc_state.specs.declared.record.ProcessRecord.{ProcessRecord}

-- the record of the process with this number
abbrev pub find_record : ℕ → List ProcessRecord → Option ProcessRecord
find_record pid [] = None
find_record pid (r ∷ rs) = if r.node == pid then Some r else find_record pid rs

-- the records, with that of this process put through a function
abbrev pub at_process : ℕ → (ProcessRecord → ProcessRecord) → List ProcessRecord → List ProcessRecord
at_process pid f rs = map (λ r. if r.node == pid then f r else r) rs

-- a state is one of the ends: Finished, Excepted or Killed
abbrev pub has_ended : ProcessState → Bool
has_ended state.Created = false
has_ended state.Running = false
has_ended state.Waiting = false
has_ended (state.Finished n) = true
has_ended (state.Excepted r) = true
has_ended state.Killed = true
