-- Which changes can stand in bytes.
use Rattle.std.specs.Prelude.{ℕ, ◌<◌, ◌≤◌, ◌^◌, ◌≡◌, ℤ, true, List, length, All, Option, Some, None, FitsSigned}
use Rattle.std.specs.Int.{w64}
use Rattle.wc_value.specs.Ascending.{Ascends}
use Rattle.wc_value.specs.Spelling.{spelling, depth}
use Rattle.wc_value.specs.Spells.{Spells, IsText}
use Rattle.wc_value.specs.declared.value.Value.{Value}
use Rattle.wc_value.specs.declared.process.ProcessState.{ProcessState}
use Rattle.wc_value.specs.declared.process.ProcessState.TheVariants as state
use Rattle.wc_graph.specs.declared.link.Link.{Link}
use Rattle.wc_syntax.specs.declared.definition.Definition.{Definition}
use Rattle.wc_syntax.specs.Bare.{bare_library}
use Rattle.wc_syntax.specs.Checked.{IsChecked}
use Rattle.wc_syntax.specs.Printing.{printed}
use Rattle.wc_state.specs.Context.{Pairs, KeysDiffer}
use Rattle.wc_state.specs.declared.context.CtxRef.{CtxRef}
use Rattle.wc_state.specs.declared.context.CtxRef.TheVariants as held
use Rattle.wc_state.specs.declared.record.JobPart.{JobPart}
use Rattle.wc_state.specs.declared.record.Frame.{Frame}
use Rattle.wc_state.specs.declared.record.Await.{Await}
use Rattle.wc_state.specs.declared.record.Checkpoint.{Checkpoint}
use Rattle.wc_state.specs.declared.record.Part.{Part}
use Rattle.wc_state.specs.declared.record.Part.TheVariants as part
use Rattle.wc_world.specs.Fits.{names_ascend}
use Rattle.wc_records.specs.declared.change.NewProcess.{NewProcess}
use Rattle.wc_records.specs.declared.change.SetProcess.{SetProcess}
use Rattle.wc_records.specs.declared.change.Kept.{Kept}
use Rattle.wc_world.specs.declared.change.Change.{Change}
use Rattle.wc_world.specs.declared.change.Change.TheVariants as change

-- a number is below 2^32
abbrev pub IsNumber : ℕ → Type 0
IsNumber n = n < 2 ^ 32

-- so few items that four bytes can tell their number, and each is as it must be
pub record IsList {A : Type 0} (P : A → Type 0) (xs : List A) : Type 0 where
  pub few : length xs < 2 ^ 32
  pub each : All P xs

-- ---- parts
-- a state can stand in bytes: the status of one that has finished is below 2^32
abbrev pub IsState : ProcessState → Type 0
IsState (state.Finished n) = IsNumber n
IsState _ = Unit {0}

-- an exit code, where there is one, fits 64 bits with its sign
abbrev pub IsCode : Option ℤ → Type 0
IsCode None = Unit {0}
IsCode (Some n) = FitsSigned w64 n

-- both numbers of a frame are below 2^32
pub record IsFrame (f : Frame) : Type 0 where
  pub block : IsNumber f.block
  pub next : IsNumber f.next

-- a value that has canonical bytes and is at most 32 deep
pub record IsValue (v : Value) : Type 0 where
  pub spelled : Spells v (spelling v)
  pub shallow : depth v ≤ 32

-- what a key holds can stand in bytes: a value that has canonical bytes, or numbers of processes below 2^32
abbrev pub IsHeld : CtxRef → Type 0
IsHeld (held.Plain v) = IsValue v
IsHeld (held.One pid) = IsNumber pid
IsHeld (held.Many pids) = IsList IsNumber pids

-- a key is a text, and what it holds can stand in bytes
pub record IsPair (p : List ℕ × CtxRef) : Type 0 where
  pub key : IsText p.0
  pub held : IsHeld p.1

-- of an awaited process the key is a text, and its number is below 2^32
pub record IsAwait (a : Await) : Type 0 where
  pub key : IsText a.key
  pub pid : IsNumber a.pid

-- the label of an output is a text, and the number of its node is below 2^32
pub record IsOutput (o : List ℕ × ℕ) : Type 0 where
  pub label : IsText o.0
  pub node : IsNumber o.1

-- a checkpoint can stand in bytes: all in it can, its keys differ, and the labels of its outputs ascend
pub record IsCheckpoint (c : Checkpoint) : Type 0 where
  pub frames : IsList IsFrame c.frames
  pub ctx : IsList IsPair c.ctx
  pub keys_differ : KeysDiffer c.ctx
  pub awaiting : IsList IsAwait c.awaiting
  pub calls : IsNumber c.calls
  pub outputs : IsList IsOutput c.outputs
  pub labels_ascend : Ascends c.outputs

-- a job has failed at most five times in a row, and its due moment is below 2^64
pub record IsJob (j : JobPart) : Type 0 where
  pub fails : j.fails ≤ 5
  pub due : j.due < 2 ^ 64

-- the part of a record can stand in bytes: of a chain its checkpoint, of a job how it stands
abbrev pub IsPart : Part → Type 0
IsPart part.Fresh = Unit {0}
IsPart (part.Chain c) = IsCheckpoint c
IsPart (part.Job j) = IsJob j
IsPart part.Over = Unit {0}

-- ---- changes
-- the bare form of a checked library, whose printed text four bytes can count, and names that ascend
pub record IsLibrary (library : List Definition) (cached : List (List ℕ)) : Type 0 where
  pub checked : (l : List Definition) × IsChecked l × (bare_library l ≡ library)
  pub text : IsText (printed library)
  pub names : IsList IsText cached
  pub ascend : names_ascend cached ≡ true

-- a new process can stand in bytes: its definition and its label are texts, its library and its depth below 2^32
pub record IsNew (n : NewProcess) : Type 0 where
  pub definition : IsText n.definition
  pub library : IsNumber n.library
  pub depth : IsNumber n.depth
  pub label : IsText n.label

-- the ends of a link are below 2^32, and its label is a text
pub record IsLink (l : Link) : Type 0 where
  pub source : IsNumber l.source
  pub target : IsNumber l.target
  pub label : IsText l.label

-- a process that is set can stand in bytes: its numbers are in their ranges, and its state, its code and its part can
pub record IsSet (s : SetProcess) : Type 0 where
  pub pid : IsNumber s.pid
  pub state : IsState s.state
  pub cached_from : IsNumber s.cached_from
  pub fuel : s.fuel < 2 ^ 64
  pub code : IsCode s.code
  pub part : IsPart s.part

-- the three numbers that a snapshot keeps of a process are below 2^32
pub record IsKept (k : Kept) : Type 0 where
  pub pid : IsNumber k.pid
  pub started : IsNumber k.started
  pub ended : IsNumber k.ended

-- a change can stand in bytes, by its kind
abbrev pub IsChange : Change → Type 0
IsChange (change.Library l names) = IsLibrary l names
IsChange (change.Data v) = IsValue v
IsChange (change.Process n) = IsNew n
IsChange (change.Link l) = IsLink l
IsChange (change.Set s) = IsSet s
IsChange (change.Count n) = IsNumber n
IsChange (change.Kept k) = IsKept k

-- what each list of changes that stands in bytes meets
abbrev pub IsWritten : List Change → Type 0
IsWritten cs = IsList IsChange cs

-- ---- what the types of changes don't tell
-- a value that a key holds is at most 32 deep
abbrev pub IsShallow : CtxRef → Type 0
IsShallow (held.Plain v) = depth v ≤ 32
IsShallow _ = Unit {0}

-- the values are at most 32 deep
abbrev pub IsReadable : Pairs → Type 0
IsReadable ps = All (λ p. IsShallow p.1) ps

-- the values in a chain's context are at most 32 deep
abbrev pub IsReadablePart : Part → Type 0
IsReadablePart (part.Chain c) = IsReadable c.ctx
IsReadablePart _ = Unit {0}

-- a change's values are at most 32 deep
abbrev pub IsReadableChange : Change → Type 0
IsReadableChange (change.Data v) = depth v ≤ 32
IsReadableChange (change.Set s) = IsReadablePart s.part
IsReadableChange _ = Unit {0}

-- the values of changes are at most 32 deep
abbrev pub AreReadable : List Change → Type 0
AreReadable cs = All IsReadableChange cs

-- a job has failed at most five times in a row
abbrev pub FailsFit : Part → Type 0
FailsFit (part.Job j) = j.fails ≤ 5
FailsFit _ = Unit {0}

-- a job's fails is at most 5, and the names of a library ascend
abbrev pub IsWritable : Change → Type 0
IsWritable (change.Library l names) = names_ascend names ≡ true
IsWritable (change.Set s) = FailsFit s.part
IsWritable _ = Unit {0}

-- each of these changes can be written: what `IsWritable` asks of one
abbrev pub AreWritable : List Change → Type 0
AreWritable cs = All IsWritable cs
