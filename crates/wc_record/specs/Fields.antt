-- Reading the fields of changes.
use Rattle.std.specs.Prelude.{ℕ, Bool, true, false, List, [], ◌∷◌, Option, Some, None, Ok, Err, ℤ, is_some, if◌then◌else◌}
use Rattle.wc_value.specs.declared.process.Reason.TheVariants as reason
use Rattle.wc_value.specs.declared.process.ProcessState.{ProcessState}
use Rattle.wc_value.specs.declared.process.ProcessState.TheVariants as state
use Rattle.wc_graph.specs.declared.link.LinkType.{LinkType}
use Rattle.wc_graph.specs.declared.link.LinkType.TheVariants as link_type
use Rattle.wc_graph.specs.declared.link.Link.{Link}
use Rattle.wc_state.specs.Context.{Pairs, found_at}
use Rattle.wc_state.specs.declared.context.CtxRef.{CtxRef}
use Rattle.wc_state.specs.declared.context.CtxRef.TheVariants as held
use Rattle.wc_state.specs.declared.record.ProcessKind.{ProcessKind}
use Rattle.wc_state.specs.declared.record.ProcessKind.TheVariants as kind
use Rattle.wc_state.specs.declared.record.Task.{Task}
use Rattle.wc_state.specs.declared.record.Task.TheVariants as task
use Rattle.wc_state.specs.declared.record.JobPart.{JobPart}
use Rattle.wc_state.specs.declared.record.Frame.{Frame}
use Rattle.wc_state.specs.declared.record.Await.{Await}
use Rattle.wc_state.specs.declared.record.Checkpoint.{Checkpoint}
use Rattle.wc_state.specs.declared.record.Part.{Part}
use Rattle.wc_state.specs.declared.record.Part.TheVariants as part
use Rattle.wc_records.specs.declared.change.NewProcess.{NewProcess}
use Rattle.wc_records.specs.declared.change.SetProcess.{SetProcess}
use Rattle.wc_records.specs.declared.change.Kept.{Kept}
use Rattle.wc_world.specs.declared.change.Change.{Change}
use Rattle.wc_world.specs.declared.change.Change.TheVariants as change
use Rattle.wc_record.specs.declared.error.RecordError.TheVariants.{Unsorted}
use Rattle.wc_record.specs.Readers.{Reader, ◌>>=◌, ◌⊗◌, always, built, choice, number_of, byte_below, u32, u64, i64, text, value, counted, name, label}

-- ---- bytes that stand for something
-- the bytes of truth values
abbrev pub truths : List (ℕ × Reader Bool)
truths = (0, always false) ∷ (1, always true) ∷ []

-- the reading of a truth value
abbrev pub truth : Reader Bool
truth = choice truths

-- the bytes of kinds of processes
abbrev pub kinds : List (ℕ × Reader ProcessKind)
kinds = (1, always kind.Function) ∷ (2, always kind.Job) ∷ (3, always kind.Chain) ∷ []

-- the reading of a kind of process
abbrev pub kind_of_process : Reader ProcessKind
kind_of_process = choice kinds

-- the bytes of types of links
abbrev pub link_types : List (ℕ × Reader LinkType)
link_types =
    (1, always link_type.InputCalc) ∷ (2, always link_type.InputWork) ∷ (3, always link_type.Create)
    ∷ (4, always link_type.Return) ∷ (5, always link_type.CallCalc) ∷ (6, always link_type.CallWork) ∷ []

-- the reading of a type of link
abbrev pub type_of_link : Reader LinkType
type_of_link = choice link_types

-- the bytes of tasks
abbrev pub tasks : List (ℕ × Reader Task)
tasks = (1, always task.Upload) ∷ (2, always task.Submit) ∷ (3, always task.Update) ∷ (4, always task.Retrieve) ∷ []

-- the reading of a task
abbrev pub job_task : Reader Task
job_task = choice tasks

-- the numbers of reasons
abbrev pub reasons : List (ℕ × ProcessState)
reasons =
    (1, state.Excepted reason.Overflow) ∷ (2, state.Excepted reason.DivideByZero) ∷ (3, state.Excepted reason.MissingKey)
    ∷ (4, state.Excepted reason.WrongKind) ∷ (5, state.Excepted reason.NoOutput) ∷ (6, state.Excepted reason.BadText)
    ∷ (7, state.Excepted reason.TooLong) ∷ (8, state.Excepted reason.Depth) ∷ (9, state.Excepted reason.BadInput) ∷ []

-- the state of a reason's number
abbrev pub excepted : Reader ProcessState
excepted = number_of reasons

-- the numbers that may stand behind the byte of a state: 0 alone
abbrev pub zero_for : ProcessState → List (ℕ × ProcessState)
zero_for s = (0, s) ∷ []

-- of a finished state the number is any, of an excepted one that of its reason, of any other one 0
abbrev pub states : List (ℕ × Reader ProcessState)
states =
    (1, number_of (zero_for state.Created)) ∷ (2, number_of (zero_for state.Running)) ∷ (3, number_of (zero_for state.Waiting))
    ∷ (4, built state.Finished u32) ∷ (5, excepted) ∷ (6, number_of (zero_for state.Killed)) ∷ []

-- a state, and the number behind it
abbrev pub process_state : Reader ProcessState
process_state = choice states

-- the bytes in front of an exit code: 0 where there is none, 1 where one follows
abbrev pub codes : List (ℕ × Reader (Option ℤ))
codes = (0, always None) ∷ (1, built Some i64) ∷ []

-- the reading of an exit code, if there is one
abbrev pub code_if_any : Reader (Option ℤ)
code_if_any = choice codes

-- ---- parts
-- a frame from its two numbers
abbrev pub as_frame : ℕ × ℕ → Frame
as_frame x = record { block = x.0; next = x.1 }

-- the reading of a frame
abbrev pub frame : Reader Frame
frame = built as_frame (u32 ⊗ u32)

-- the reading of numbers of nodes
abbrev pub ids : Reader (List ℕ)
ids = counted (λ front. u32)

-- the bytes in front of what a key holds
abbrev pub holdings : List (ℕ × Reader CtxRef)
holdings = (1, built held.Plain value) ∷ (2, built held.One u32) ∷ (3, built held.Many ids) ∷ []

-- what a key of a context holds
abbrev pub held_at : Reader CtxRef
held_at = choice holdings

-- a key that isn't one of those in front
abbrev pub key : Pairs → Reader (List ℕ)
key front bytes at = text bytes at >>= (λ k. if is_some (found_at front k.0) then Err (Unsorted at) else Ok k)

-- the reading of a key with what it holds, behind those in front
abbrev pub pair : Pairs → Reader (List ℕ × CtxRef)
pair front = key front ⊗ held_at

-- an awaited process from its fields
abbrev pub as_await : List ℕ × (Bool × ℕ) → Await
as_await x = record { key = x.0; append = x.1.0; pid = x.1.1 }

-- the reading of an awaited process
abbrev pub await : Reader Await
await = built as_await (text ⊗ truth ⊗ u32)

-- the reading of an output, behind those in front
abbrev pub output : List (List ℕ × ℕ) → Reader (List ℕ × ℕ)
output front = label front ⊗ u32

-- a checkpoint from its fields
abbrev pub as_checkpoint : List Frame × (Pairs × (List Await × (ℕ × List (List ℕ × ℕ)))) → Checkpoint
as_checkpoint x = record { frames = x.0; ctx = x.1.0; awaiting = x.1.1.0; calls = x.1.1.1.0; outputs = x.1.1.1.1 }

-- the reading of a checkpoint
abbrev pub checkpoint : Reader Checkpoint
checkpoint = built as_checkpoint (counted (λ front. frame) ⊗ counted pair ⊗ counted (λ front. await) ⊗ u32 ⊗ counted output)

-- how a job stands, from its fields
abbrev pub as_job : Task × (ℕ × ℕ) → JobPart
as_job x = record { task = x.0; fails = x.1.0; due = x.1.1 }

-- the reading of how a job stands
abbrev pub job : Reader JobPart
job = built as_job (job_task ⊗ byte_below 6 ⊗ u64)

-- the bytes in front of the parts of records
abbrev pub standings : List (ℕ × Reader Part)
standings = (0, always part.Fresh) ∷ (1, built part.Chain checkpoint) ∷ (2, built part.Job job) ∷ (3, always part.Over) ∷ []

-- where a process stands
abbrev pub process_part : Reader Part
process_part = choice standings

-- ---- changes, but for libraries
-- a new process from its fields
abbrev pub as_process : ProcessKind × (List ℕ × (ℕ × (ℕ × (List ℕ × Bool)))) → NewProcess
as_process x = record { kind = x.0; definition = x.1.0; library = x.1.1.0; depth = x.1.1.1.0; label = x.1.1.1.1.0; caching = x.1.1.1.1.1 }

-- the reading of a new process
abbrev pub new_process : Reader NewProcess
new_process = built as_process (kind_of_process ⊗ text ⊗ u32 ⊗ u32 ⊗ text ⊗ truth)

-- a link from its fields
abbrev pub as_link : ℕ × (ℕ × (LinkType × List ℕ)) → Link
as_link x = record { source = x.0; target = x.1.0; link = x.1.1.0; label = x.1.1.1 }

-- the reading of a link
abbrev pub link : Reader Link
link = built as_link (u32 ⊗ u32 ⊗ type_of_link ⊗ text)

-- a process that is set, from its fields
abbrev pub as_set : ℕ × (ProcessState × (Bool × (ℕ × (ℕ × (Option ℤ × Part))))) → SetProcess
as_set x = record {
  pid = x.0;
  state = x.1.0;
  paused = x.1.1.0;
  cached_from = x.1.1.1.0;
  fuel = x.1.1.1.1.0;
  code = x.1.1.1.1.1.0;
  part = x.1.1.1.1.1.1;
}

-- the reading of a process that is set
abbrev pub set_process : Reader SetProcess
set_process = built as_set (u32 ⊗ process_state ⊗ truth ⊗ u32 ⊗ u64 ⊗ code_if_any ⊗ process_part)

-- what a snapshot keeps, from its fields
abbrev pub as_kept : ℕ × (ℕ × ℕ) → Kept
as_kept x = record { pid = x.0; started = x.1.0; ended = x.1.1 }

-- the reading of what a snapshot keeps of a process
abbrev pub kept : Reader Kept
kept = built as_kept (u32 ⊗ u32 ⊗ u32)

-- the bytes in front of all changes but that of a library
abbrev pub other_changes : List (ℕ × Reader Change)
other_changes =
    (2, built change.Data value) ∷ (3, built change.Process new_process) ∷ (4, built change.Link link) ∷ (5, built change.Set set_process)
    ∷ (6, built change.Count u32) ∷ (7, built change.Kept kept) ∷ []

-- a change that isn't a library
abbrev pub other_change : Reader Change
other_change = choice other_changes

-- the names of a library's definitions that have caching on
abbrev pub names : Reader (List (List ℕ))
names = counted name
