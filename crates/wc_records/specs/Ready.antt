-- Whether the process with a number is ready, and which of the ready ones comes next.
use Rattle.std.specs.Prelude.{ℕ, nat_le, nat_lt, Bool, false, List, filter, Option, Some, None, slice_get}
use Rattle.std.specs.List.{find}
use Rattle.std.specs.Option.{option_or}
use Rattle.wc_state.specs.declared.record.ProcessRecord.{ProcessRecord}
use Rattle.wc_records.specs.Records.{find_record}
use Rattle.wc_records.specs.Readiness.{is_ready}

-- whether a record is there and is ready at a moment
abbrev pub is_ready_by : List ProcessRecord → ℕ → Option ProcessRecord → Bool
is_ready_by records now None = false
is_ready_by records now (Some r) = is_ready records now r

-- there is a process with this number, and it is ready at the moment
abbrev pub is_ready_at : List ProcessRecord → (pid now : ℕ) → Bool
is_ready_at records pid now = is_ready_by records now (find_record pid records)

-- the first number above this one, else the first of all, where there is one
abbrev pub first_above : ℕ → List ℕ → Option ℕ
first_above last ids = option_or (find (nat_lt last) ids) (slice_get ids 0)

-- the due moments that aren't after this one
abbrev pub due_by : ℕ → List (ℕ × ℕ) → List (ℕ × ℕ)
due_by now dues = filter (λ d. nat_le d.0 now) dues
