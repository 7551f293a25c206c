-- What changes make of one record.
use Rattle.std.specs.Prelude.{ℕ, ◌==◌, Bool, true, false, not, ◌&&◌, if◌then◌else◌, Option, Some, None}
use Rattle.wc_value.specs.declared.process.ProcessState.{ProcessState}
use Rattle.wc_value.specs.declared.process.ProcessState.TheVariants as state
use Rattle.wc_state.specs.declared.record.ProcessRecord.{ProcessRecord}
use Rattle.wc_state.specs.declared.record.Part.TheVariants as part
use Rattle.wc_records.specs.declared.change.NewProcess.{NewProcess}
use Rattle.wc_records.specs.declared.change.SetProcess.{SetProcess}
use Rattle.wc_records.specs.declared.change.Kept.{Kept}
use Rattle.wc_records.specs.Records.{has_ended}

-- a new process is created, has had no turn, and has no marks
abbrev pub made : ℕ → NewProcess → ProcessRecord
made number n = record {
  node = number;
  kind = n.kind;
  definition = n.definition;
  library = n.library;
  depth = n.depth;
  label = n.label;
  caching = n.caching;
  state = state.Created;
  paused = false;
  cached_from = None;
  fuel = 0;
  code = None;
  started = 0;
  ended = 0;
  part = part.Fresh;
}

-- 0 stands for none
abbrev pub source_of : ℕ → Option ℕ
source_of n = if n == 0 then None else Some n

-- whether a state is Created
abbrev pub is_created : ProcessState → Bool
is_created state.Created = true
is_created state.Running = false
is_created state.Waiting = false
is_created (state.Finished n) = false
is_created (state.Excepted r) = false
is_created state.Killed = false

-- whether a state is Killed
abbrev pub is_killed : ProcessState → Bool
is_killed state.Created = false
is_killed state.Running = false
is_killed state.Waiting = false
is_killed (state.Finished n) = false
is_killed (state.Excepted r) = false
is_killed state.Killed = true

-- a process starts in the batch that takes it from created to another state than killed
abbrev pub started_in : ℕ → ProcessRecord → ProcessState → ℕ
started_in batch r s = if is_created r.state && (not (is_created s) && not (is_killed s)) then batch else r.started

-- it ends in the batch that ends it
abbrev pub ended_in : ℕ → ProcessRecord → ProcessState → ℕ
ended_in batch r s = if has_ended s then batch else r.ended

-- the record that a Set in this batch leaves
abbrev pub set : ℕ → SetProcess → ProcessRecord → ProcessRecord
set batch s r = record {
  node = r.node;
  kind = r.kind;
  definition = r.definition;
  library = r.library;
  depth = r.depth;
  label = r.label;
  caching = r.caching;
  state = s.state;
  paused = s.paused;
  cached_from = source_of s.cached_from;
  fuel = s.fuel;
  code = s.code;
  started = started_in batch r s.state;
  ended = ended_in batch r s.state;
  part = s.part;
}

-- the record that a Kept leaves
abbrev pub keep : Kept → ProcessRecord → ProcessRecord
keep k r = record {
  node = r.node;
  kind = r.kind;
  definition = r.definition;
  library = r.library;
  depth = r.depth;
  label = r.label;
  caching = r.caching;
  state = r.state;
  paused = r.paused;
  cached_from = r.cached_from;
  fuel = r.fuel;
  code = r.code;
  started = k.started;
  ended = k.ended;
  part = r.part;
}
