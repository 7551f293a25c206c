-- What an index says of records.
use Rattle.std.specs.Prelude.{◌≡◌, ℕ, suc, ◌<◌, ◌≤◌, ◌==◌, Bool, true, false, not, if◌then◌else◌, List, [], ◌∷◌, length, map, filter, Option, Some, None, slice_index, slice_index_or, vec_capacity}
use Rattle.wc_state.specs.declared.record.Await.{Await}
use Rattle.wc_state.specs.declared.record.ProcessRecord.{ProcessRecord}
use Rattle.wc_records.specs.declared.index.Index.{Index}
use Rattle.wc_records.specs.Readiness.{waits_later, due_of, ended_at, is_ready, ready_at, AreDues, awaits_of, live_in, sooner}
use Rattle.wc_records.specs.Marked.{marked}

-- how many of these processes, from the first one on, have ended
abbrev pub ended_first : List ProcessRecord → List Await → ℕ
ended_first records [] = 0
ended_first records (a ∷ pids) = if ended_at records a.pid then suc (ended_first records pids) else 0

-- how many of the processes that it awaits, from the first one on, have ended
abbrev pub passed_by : List ProcessRecord → ProcessRecord → ℕ
passed_by records r = ended_first records (awaits_of r.part)

-- The index says of each record how many of those that it awaits have ended, and which processes are ready, will be, and live.
pub record IsIndexOf (records : List ProcessRecord) (x : Index) : Type 0 where
  pub passed : x.passed.items ≡ map (passed_by records) records
  pub at_once : x.at_once.items ≡ ready_at records 0
  pub later : AreDues records x.later.items
  pub live : x.live ≡ live_in records

-- ---- on the way from one list of records to another

-- the numbers of the processes that pass a test
abbrev pub chosen : (ProcessRecord → Bool) → List ProcessRecord → List ℕ
chosen test records = map (λ r. r.node) (filter test records)

-- What is counted and marked is right for each process whose number passes a test.
pub record AreCounted (sure : ℕ → Bool) (records : List ProcessRecord) (passed at_once : List ℕ) : Type 0 where
  pub size : length passed ≡ length records
  pub counts : (k : ℕ) (d : ProcessRecord) → k < length records → sure (slice_index_or records k d).node ≡ true
      → slice_index passed k ≡ passed_by records (slice_index_or records k d)
  pub test : ProcessRecord → Bool
  pub chosen : at_once ≡ chosen test records
  pub marks : (k : ℕ) (d : ProcessRecord) → k < length records → sure (slice_index_or records k d).node ≡ true
      → test (slice_index_or records k d) ≡ is_ready records 0 (slice_index_or records k d)

-- nobody's count is too high
abbrev pub AreNotAbove : List ProcessRecord → List ℕ → Type 0
AreNotAbove records passed = (k : ℕ) (d : ProcessRecord) → k < length records → slice_index passed k ≤ passed_by records (slice_index_or records k d)

-- any number but this one
abbrev pub is_other : Option ℕ → ℕ → Bool
is_other None n = true
is_other (Some m) n = not (n == m)

-- the due moments without that of a process
abbrev pub without_due : ProcessRecord → List (ℕ × ℕ) → List (ℕ × ℕ)
without_due r dues = if waits_later r then marked sooner (due_of r.part, r.node) false dues else dues

-- the due moments with that of a process
abbrev pub with_due : ProcessRecord → List (ℕ × ℕ) → List (ℕ × ℕ)
with_due r dues = if waits_later r then marked sooner (due_of r.part, r.node) true dues else dues

-- There is room for the entries of so many records.
pub record HasPlaces (count : ℕ) (x : Index) : Type 0 where
  pub passed : count ≤ vec_capacity x.passed
  pub at_once : count ≤ x.at_once.room
  pub later : count ≤ x.later.room
