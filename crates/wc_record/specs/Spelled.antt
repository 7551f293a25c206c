-- The bytes of changes.
use Rattle.std.specs.Prelude.{ℕ, Bool, if◌then◌else◌, List, [], ◌∷◌, ◌++◌, length, flat_map, Option, Some, None, ℤ}
use Rattle.std.specs.Int.{w32, w64, to_be_bytes, cast_unsigned}
use Rattle.wc_value.specs.Spelling.{spelling, text}
use Rattle.wc_value.specs.declared.process.Reason.{Reason}
use Rattle.wc_value.specs.declared.process.Reason.TheVariants as reason
use Rattle.wc_value.specs.declared.process.ProcessState.{ProcessState}
use Rattle.wc_value.specs.declared.process.ProcessState.TheVariants as state
use Rattle.wc_graph.specs.declared.link.LinkType.{LinkType}
use Rattle.wc_graph.specs.declared.link.LinkType.TheVariants as link_type
use Rattle.wc_graph.specs.declared.link.Link.{Link}
use Rattle.wc_state.specs.declared.context.CtxRef.{CtxRef}
use Rattle.wc_state.specs.declared.context.CtxRef.TheVariants as held
use Rattle.wc_state.specs.declared.record.ProcessKind.{ProcessKind}
use Rattle.wc_state.specs.declared.record.ProcessKind.TheVariants as kind
use Rattle.wc_state.specs.declared.record.Task.{Task}
use Rattle.wc_state.specs.declared.record.Task.TheVariants as task
use Rattle.wc_state.specs.declared.record.JobPart.{JobPart}
use Rattle.wc_state.specs.declared.record.Frame.{Frame}
use Rattle.wc_state.specs.declared.record.Await.{Await}
use Rattle.wc_state.specs.declared.record.Checkpoint.{Checkpoint}
use Rattle.wc_state.specs.declared.record.Part.{Part}
use Rattle.wc_state.specs.declared.record.Part.TheVariants as part
use Rattle.wc_syntax.specs.declared.definition.Definition.{Definition}
use Rattle.wc_syntax.specs.Printing.{printed}
use Rattle.wc_records.specs.declared.change.NewProcess.{NewProcess}
use Rattle.wc_records.specs.declared.change.SetProcess.{SetProcess}
use Rattle.wc_records.specs.declared.change.Kept.{Kept}
use Rattle.wc_world.specs.declared.change.Change.{Change}
use Rattle.wc_world.specs.declared.change.Change.TheVariants as change

-- ---- numbers and texts
-- the highest byte first
unfoldable pub u32_bytes : ℕ → List ℕ
u32_bytes n = to_be_bytes w32 n

-- the bytes of a number of 64 bits
unfoldable pub u64_bytes : ℕ → List ℕ
u64_bytes n = to_be_bytes w64 n

-- the bytes of a whole number with its sign, in 64 bits
unfoldable pub i64_bytes : ℤ → List ℕ
i64_bytes n = to_be_bytes w64 (cast_unsigned w64 n)

-- a length, and that many bytes
unfoldable pub text_bytes : List ℕ → List ℕ
text_bytes t = text t

-- the byte of a truth value
abbrev pub truth_byte : Bool → ℕ
truth_byte b = if b then 1 else 0

-- the byte of the kind of a process
abbrev pub kind_byte : ProcessKind → ℕ
kind_byte kind.Function = 1
kind_byte kind.Job = 2
kind_byte kind.Chain = 3

-- the byte of the type of a link
abbrev pub type_byte : LinkType → ℕ
type_byte link_type.InputCalc = 1
type_byte link_type.InputWork = 2
type_byte link_type.Create = 3
type_byte link_type.Return = 4
type_byte link_type.CallCalc = 5
type_byte link_type.CallWork = 6

-- the byte of the task of a job
abbrev pub task_byte : Task → ℕ
task_byte task.Upload = 1
task_byte task.Submit = 2
task_byte task.Update = 3
task_byte task.Retrieve = 4

-- the number of a reason
abbrev pub reason_number : Reason → ℕ
reason_number reason.Overflow = 1
reason_number reason.DivideByZero = 2
reason_number reason.MissingKey = 3
reason_number reason.WrongKind = 4
reason_number reason.NoOutput = 5
reason_number reason.BadText = 6
reason_number reason.TooLong = 7
reason_number reason.Depth = 8
reason_number reason.BadInput = 9

-- the byte of a state
abbrev pub state_byte : ProcessState → ℕ
state_byte state.Created = 1
state_byte state.Running = 2
state_byte state.Waiting = 3
state_byte (state.Finished n) = 4
state_byte (state.Excepted r) = 5
state_byte state.Killed = 6

-- the number behind a state: a status, that of a reason, or 0
abbrev pub state_number : ProcessState → ℕ
state_number state.Created = 0
state_number state.Running = 0
state_number state.Waiting = 0
state_number (state.Finished n) = n
state_number (state.Excepted r) = reason_number r
state_number state.Killed = 0

-- a count, and the bytes of that many items
abbrev pub list : {A : Type 0} → (A → List ℕ) → List A → List ℕ
list spell xs = u32_bytes (length xs) ++ flat_map spell xs

-- ---- parts
-- the bytes of a state
abbrev pub state_bytes : ProcessState → List ℕ
state_bytes s = state_byte s ∷ u32_bytes (state_number s)

-- the bytes of an exit code, if there is one
abbrev pub code_bytes : Option ℤ → List ℕ
code_bytes None = 0 ∷ []
code_bytes (Some n) = 1 ∷ i64_bytes n

-- the bytes of a frame of a checkpoint
abbrev pub frame_bytes : Frame → List ℕ
frame_bytes f = u32_bytes f.block ++ u32_bytes f.next

-- the bytes of what a key of a context holds
abbrev pub held_bytes : CtxRef → List ℕ
held_bytes (held.Plain v) = 1 ∷ spelling v
held_bytes (held.One pid) = 2 ∷ u32_bytes pid
held_bytes (held.Many pids) = 3 ∷ list u32_bytes pids

-- the bytes of a key of a context with what it holds
abbrev pub pair_bytes : List ℕ × CtxRef → List ℕ
pair_bytes p = text_bytes p.0 ++ held_bytes p.1

-- the bytes of an awaited process with its key
abbrev pub await_bytes : Await → List ℕ
await_bytes a = text_bytes a.key ++ (truth_byte a.append ∷ u32_bytes a.pid)

-- the bytes of an output of a checkpoint
abbrev pub output_bytes : List ℕ × ℕ → List ℕ
output_bytes o = text_bytes o.0 ++ u32_bytes o.1

-- the bytes of a checkpoint
abbrev pub checkpoint_bytes : Checkpoint → List ℕ
checkpoint_bytes c = list frame_bytes c.frames ++ (list pair_bytes c.ctx ++ (list await_bytes c.awaiting ++ (u32_bytes c.calls ++ list output_bytes c.outputs)))

-- the bytes of how a job stands
abbrev pub job_bytes : JobPart → List ℕ
job_bytes j = task_byte j.task ∷ j.fails ∷ u64_bytes j.due

-- the bytes of the part of a record that hangs on its kind
abbrev pub part_bytes : Part → List ℕ
part_bytes part.Fresh = 0 ∷ []
part_bytes (part.Chain c) = 1 ∷ checkpoint_bytes c
part_bytes (part.Job j) = 2 ∷ job_bytes j
part_bytes part.Over = 3 ∷ []

-- ---- changes
-- the bytes of a new process
abbrev pub new_bytes : NewProcess → List ℕ
new_bytes n = kind_byte n.kind ∷ (text_bytes n.definition ++ (u32_bytes n.library ++ (u32_bytes n.depth ++ (text_bytes n.label ++ truth_byte n.caching ∷ []))))

-- the bytes of a link
abbrev pub link_bytes : Link → List ℕ
link_bytes l = u32_bytes l.source ++ (u32_bytes l.target ++ (type_byte l.link ∷ text_bytes l.label))

-- the bytes of a process that is set
abbrev pub set_bytes : SetProcess → List ℕ
set_bytes s =
    u32_bytes s.pid ++ (state_bytes s.state ++ (truth_byte s.paused ∷ (u32_bytes s.cached_from ++ (u64_bytes s.fuel ++ (code_bytes s.code ++ part_bytes s.part)))))

-- the bytes of what a snapshot keeps of a process
abbrev pub kept_bytes : Kept → List ℕ
kept_bytes k = u32_bytes k.pid ++ (u32_bytes k.started ++ u32_bytes k.ended)

-- the printed text of a library, and the names of its definitions that have caching on
abbrev pub library_bytes : List Definition → List (List ℕ) → List ℕ
library_bytes library names = text_bytes (printed library) ++ list text_bytes names

-- a change
abbrev pub change_bytes : Change → List ℕ
change_bytes (change.Library l names) = 1 ∷ library_bytes l names
change_bytes (change.Data v) = 2 ∷ spelling v
change_bytes (change.Process n) = 3 ∷ new_bytes n
change_bytes (change.Link l) = 4 ∷ link_bytes l
change_bytes (change.Set s) = 5 ∷ set_bytes s
change_bytes (change.Count n) = 6 ∷ u32_bytes n
change_bytes (change.Kept k) = 7 ∷ kept_bytes k

-- The bytes of changes (`docs/FORMATS.md`, "Changes")
abbrev pub spelled : List Change → List ℕ
spelled cs = list change_bytes cs
