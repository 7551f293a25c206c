-- Which processes are ready for a turn, and which will be.
use Rattle.std.specs.Prelude.{◌≡◌, ℕ, nat_le, nat_lt, ◌==◌, Bool, true, false, not, ◌&&◌, ◌||◌, List, [], length, filter, map, count_by, All, Option, Some, None}
use Rattle.std.specs.List.{list_all, list_any}
use Rattle.wc_value.specs.declared.process.ProcessState.{ProcessState}
use Rattle.wc_value.specs.declared.process.ProcessState.TheVariants as state
use Rattle.wc_state.specs.declared.record.Await.{Await}
use Rattle.wc_state.specs.declared.record.Part.{Part}
use Rattle.wc_state.specs.declared.record.Part.TheVariants as part
use Rattle.wc_state.specs.declared.record.ProcessRecord.{ProcessRecord}
use Rattle.wc_records.specs.Records.{find_record, has_ended}
use Rattle.wc_records.specs.Marked.{IsSorted}

-- ---- one process

-- whether a process goes on at a moment, where so many of the processes that it awaits have ended, from the first one on
abbrev pub is_past : ℕ → ℕ → Part → Bool
is_past passed now part.Fresh = false
is_past passed now (part.Chain c) = passed == length c.awaiting
is_past passed now (part.Job j) = nat_le j.due now
is_past passed now part.Over = false

-- a process in this state goes on: it is created, or runs, or waits for what has come by now
abbrev pub goes_on : ℕ → ℕ → ProcessState → Part → Bool
goes_on passed now state.Created p = true
goes_on passed now state.Running p = true
goes_on passed now state.Waiting p = is_past passed now p
goes_on passed now (state.Finished n) p = false
goes_on passed now (state.Excepted r) p = false
goes_on passed now state.Killed p = false

-- a process is ready: it isn't paused and goes on
abbrev pub is_ready_past : ℕ → ℕ → ProcessRecord → Bool
is_ready_past passed now r = not r.paused && goes_on passed now r.state r.part

-- the moment from which on a job is asked about, and 0 where nothing is waited for
abbrev pub due_of : Part → ℕ
due_of part.Fresh = 0
due_of (part.Chain c) = 0
due_of (part.Job j) = j.due
due_of part.Over = 0

-- a state is Waiting
abbrev pub is_waiting : ProcessState → Bool
is_waiting state.Created = false
is_waiting state.Running = false
is_waiting state.Waiting = true
is_waiting (state.Finished n) = false
is_waiting (state.Excepted r) = false
is_waiting state.Killed = false

-- a job waits for a moment after the first one, and isn't paused
abbrev pub waits_later : ProcessRecord → Bool
waits_later r = not r.paused && (is_waiting r.state && nat_lt 0 (due_of r.part))

-- ---- processes of a list

-- whether a process is there and has ended
abbrev pub is_over : Option ProcessRecord → Bool
is_over None = false
is_over (Some r) = has_ended r.state

-- the process has ended
abbrev pub ended_at : List ProcessRecord → ℕ → Bool
ended_at records pid = is_over (find_record pid records)

-- ---- ready at a moment

-- a job is asked about from its due moment on, and a work chain goes on when each child that it awaits has ended
abbrev pub is_through : List ProcessRecord → ℕ → Part → Bool
is_through records now part.Fresh = false
is_through records now (part.Chain c) = list_all (λ a. ended_at records a.pid) c.awaiting
is_through records now (part.Job j) = nat_le j.due now
is_through records now part.Over = false

-- whether a process in this state may take a turn: a waiting one once it is through
abbrev pub may_go : List ProcessRecord → ℕ → ProcessState → Part → Bool
may_go records now state.Created p = true
may_go records now state.Running p = true
may_go records now state.Waiting p = is_through records now p
may_go records now (state.Finished n) p = false
may_go records now (state.Excepted r) p = false
may_go records now state.Killed p = false

-- A process is ready at a moment: it isn't paused, and it is created, or running, or has waited for long enough.
abbrev pub is_ready : List ProcessRecord → ℕ → ProcessRecord → Bool
is_ready records now r = not r.paused && may_go records now r.state r.part

-- the numbers of the ready processes, ascending
abbrev pub ready_at : List ProcessRecord → ℕ → List ℕ
ready_at records now = map (λ r. r.node) (filter (is_ready records now) records)

-- ---- ready later

-- the process is there, and waits for this moment
abbrev pub waits_until : ℕ → Option ProcessRecord → Bool
waits_until due None = false
waits_until due (Some r) = waits_later r && (due_of r.part == due)

-- one due moment with its process comes before another: by the moments, and at one moment by the processes' numbers
abbrev pub sooner : ℕ × ℕ → ℕ × ℕ → Bool
sooner a b = nat_lt a.0 b.0 || ((a.0 == b.0) && nat_lt a.1 b.1)

-- this due moment stands in the list, with this process
abbrev pub is_due_in : List (ℕ × ℕ) → ℕ → ℕ → Bool
is_due_in dues due pid = list_any (λ d. (d.0 == due) && (d.1 == pid)) dues

-- The due moments of the waiting jobs, in order: each stands there, with its process, and nothing else does.
pub record AreDues (records : List ProcessRecord) (dues : List (ℕ × ℕ)) : Type 0 where
  pub order : IsSorted sooner dues
  pub exact : (due pid : ℕ) → is_due_in dues due pid ≡ waits_until due (find_record pid records)
  pub count : length dues ≡ count_by waits_later records

-- ---- awaited processes

-- what a part awaits; of a chain alone there is something
abbrev pub awaits_of : Part → List Await
awaits_of part.Fresh = []
awaits_of (part.Chain c) = c.awaiting
awaits_of (part.Job j) = []
awaits_of part.Over = []

-- the process awaits that of this number
abbrev pub awaits : ℕ → ProcessRecord → Bool
awaits pid r = list_any (λ a. a.pid == pid) (awaits_of r.part)

-- No other process than this one, if there is one, awaits that of this number.
abbrev pub IsAwaitedBy : Option ℕ → ℕ → List ProcessRecord → Type 0
IsAwaitedBy caller pid records = All (λ r. awaits pid r ≡ true → caller ≡ Some r.node) records

-- how many processes haven't ended
abbrev pub live_in : List ProcessRecord → ℕ
live_in = count_by (λ r. not (has_ended r.state))
