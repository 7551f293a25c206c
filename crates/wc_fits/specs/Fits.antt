-- What a change must fit.
use Rattle.std.specs.Prelude.{ℕ, suc, nat_le, nat_lt, ◌==◌, Bool, true, false, not, ◌&&◌, ◌||◌, if◌then◌else◌, List, [], ◌∷◌, Option, Some, None, is_some, slice_get}
use Rattle.std.specs.List.{list_all}
use Rattle.std.specs.Str.{bytes_eq}
use Rattle.wc_value.specs.Ascending.{before}
use Rattle.wc_value.specs.Spelling.{depth}
use Rattle.wc_value.specs.declared.process.ProcessState.{ProcessState}
use Rattle.wc_value.specs.declared.process.ProcessState.TheVariants as state
use Rattle.wc_syntax.specs.declared.definition.Definition.{Definition}
use Rattle.wc_graph.specs.Rules.{node_of}
use Rattle.wc_graph.specs.declared.node.NodeKind.{NodeKind}
use Rattle.wc_graph.specs.declared.node.NodeKind.TheVariants as node
use Rattle.wc_graph.specs.declared.link.Link.{Link}
use Rattle.wc_state.specs.declared.context.CtxRef.{CtxRef}
use Rattle.wc_state.specs.declared.context.CtxRef.TheVariants as held
use Rattle.wc_state.specs.declared.record.ProcessKind.{ProcessKind}
use Rattle.wc_state.specs.declared.record.ProcessKind.TheVariants as kind
use Rattle.wc_state.specs.declared.record.ProcessRecord.{ProcessRecord}
use Rattle.wc_state.specs.declared.record.Frame.{Frame}
use Rattle.wc_state.specs.declared.record.Checkpoint.{Checkpoint}
use Rattle.wc_state.specs.declared.record.Part.{Part}
use Rattle.wc_state.specs.declared.record.Part.TheVariants as part
use Rattle.wc_records.specs.declared.change.NewProcess.{NewProcess}
use Rattle.wc_records.specs.declared.change.SetProcess.{SetProcess}
use Rattle.wc_fits.specs.World.{World, Known}
use Rattle.wc_fits.specs.Records.{find_record, has_ended, has_called, is_call_from, is_output_of, definition_in, kind_of_definition, same_kind}
use Rattle.wc_fits.specs.Blocks.{lengths_of}

-- ---- libraries

-- the name comes after the one before, if there is one
abbrev pub comes_after : Option (List ℕ) → List ℕ → Bool
comes_after None name = true
comes_after (Some last) name = before last name

-- whether names ascend behind the last one
abbrev pub ascend_after : Option (List ℕ) → List (List ℕ) → Bool
ascend_after last [] = true
ascend_after last (n ∷ ns) = comes_after last n && ascend_after (Some n) ns

-- each name comes before those behind it
abbrev pub names_ascend : List (List ℕ) → Bool
names_ascend = ascend_after None

-- ---- new processes

-- whether a definition is there, of the kind of a process
abbrev pub is_of_kind : ProcessKind → Option Definition → Bool
is_of_kind k None = false
is_of_kind k (Some d) = same_kind (kind_of_definition d) k

-- the library is there and has the definition, which is of the kind, and the depth is 1 to 16
abbrev pub new_fits : List Known → NewProcess → Bool
new_fits libraries n = nat_le 1 n.depth && (nat_le n.depth 16 && is_of_kind n.kind (definition_in libraries n.library n.definition))

-- ---- call links

-- whether a process is one deeper than its caller and has the label of the call
abbrev pub is_called_by : List ℕ → ProcessRecord → Option ProcessRecord → Bool
is_called_by label caller None = false
is_called_by label caller (Some r) = (r.depth == suc caller.depth) && bytes_eq r.label label

-- whether a call of this label may lead from one process to the other
abbrev pub is_call_between : List ℕ → Option ProcessRecord → Option ProcessRecord → Bool
is_call_between label None target = false
is_call_between label (Some caller) target = is_called_by label caller target

-- the target of a call has its source's depth plus 1, and the link's label
abbrev pub call_fits : List ProcessRecord → Link → Bool
call_fits records l = is_call_between l.label (find_record l.source records) (find_record l.target records)

-- ---- lists

-- what a test says, which says nothing against nothing
abbrev pub on_place : {T : Type 0} → (T → Bool) → Option T → Bool
on_place test None = true
on_place test (Some x) = test x

-- ---- records

-- whether a list is empty
abbrev pub is_nil : {T : Type 0} → List T → Bool
is_nil [] = true
is_nil (x ∷ xs) = false

-- a chain that runs awaits nothing
abbrev pub chain_runs : ProcessKind → Part → Bool
chain_runs kind.Chain (part.Chain c) = is_nil c.awaiting
chain_runs _ _ = false

-- a process that waits is a chain that awaits something, or a job
abbrev pub waits : ProcessKind → Part → Bool
waits kind.Chain (part.Chain c) = not (is_nil c.awaiting)
waits kind.Job (part.Job j) = true
waits _ _ = false

-- whether a part is that of a process that wasn't begun
abbrev pub is_fresh : Part → Bool
is_fresh part.Fresh = true
is_fresh _ = false

-- whether a part is that of a process that has ended
abbrev pub is_over : Part → Bool
is_over part.Over = true
is_over _ = false

-- kind, state and part fit together
abbrev pub part_fits : ProcessKind → ProcessState → Part → Bool
part_fits k state.Created p = is_fresh p
part_fits k state.Running p = chain_runs k p
part_fits k state.Waiting p = waits k p
part_fits k (state.Finished n) p = is_over p
part_fits k (state.Excepted r) p = is_over p
part_fits k state.Killed p = is_over p

-- a job has failed at most five times in a row, and is paused where it is five times
abbrev pub fails_fit : Part → Bool → Bool
fails_fit (part.Job j) paused = nat_lt j.fails 5 || ((j.fails == 5) && paused)
fails_fit _ paused = true

-- ---- checkpoints

-- whether a frame's next instruction is within its block, or at its end
abbrev pub is_within : ℕ → Option ℕ → Bool
is_within next None = false
is_within next (Some length) = nat_le next length

-- a frame is in a block of the outline, at one of its instructions or at its end
abbrev pub frame_fits : List ℕ → Frame → Bool
frame_fits lengths f = is_within f.next (slice_get lengths f.block)

-- the lengths of a definition's blocks
abbrev pub outline_lengths : Option Definition → List ℕ
outline_lengths None = []
outline_lengths (Some d) = lengths_of d

-- whether there is a process with this number
abbrev pub is_process : List ProcessRecord → ℕ → Bool
is_process records pid = is_some (find_record pid records)

-- a value is at most 32 deep, and the processes are there
abbrev pub held_fits : List ProcessRecord → CtxRef → Bool
held_fits records (held.Plain v) = nat_le (depth v) 32
held_fits records (held.One pid) = is_process records pid
held_fits records (held.Many pids) = list_all (is_process records) pids

-- whether a node is there and is data
abbrev pub is_data_node : Option NodeKind → Bool
is_data_node None = false
is_data_node (Some (node.Data v)) = true
is_data_node (Some node.Calculation) = false
is_data_node (Some node.Workflow) = false

-- There is a frame and each is in the outline, each awaited process was called, each process of the context is there, and
-- each output is a data node. Keys differ and labels ascend by the types of a context and of outputs.
abbrev pub checkpoint_fits : World → ProcessRecord → Checkpoint → Bool
checkpoint_fits w r c =
    not (is_nil c.frames)
    && (list_all (frame_fits (outline_lengths (definition_in w.libraries r.library r.definition))) c.frames
    && (list_all (λ a. has_called w.links r.node a.pid) c.awaiting
    && (list_all (λ e. held_fits w.records e.1) c.ctx
    && list_all (λ o. is_data_node (node_of w.nodes o.1)) c.outputs)))

-- whether a part fits its process: a checkpoint its outline, its calls and its nodes
abbrev pub standing_fits : World → ProcessRecord → Part → Bool
standing_fits w r part.Fresh = true
standing_fits w r (part.Chain c) = checkpoint_fits w r c
standing_fits w r (part.Job j) = true
standing_fits w r part.Over = true

-- a process that hasn't ended is set to what fits its kind; where its source is taken from is another matter
abbrev pub set_fits : World → SetProcess → ProcessRecord → Bool
set_fits w s r =
    not (has_ended r.state)
    && (part_fits r.kind s.state s.part && (fails_fit s.part s.paused && standing_fits w r s.part))

-- ---- after the last change

-- how many calls lead from a process
abbrev pub calls_from : ℕ → List Link → ℕ
calls_from pid [] = 0
calls_from pid (l ∷ ls) = if is_call_from pid l then suc (calls_from pid ls) else calls_from pid ls

-- whether a process has an output
abbrev pub has_output : ℕ → List Link → Bool
has_output pid [] = false
has_output pid (l ∷ ls) = is_output_of pid l || has_output pid ls

-- how many calls a checkpoint counts
abbrev pub counted_calls : Part → ℕ
counted_calls part.Fresh = 0
counted_calls (part.Chain c) = c.calls
counted_calls (part.Job j) = 0
counted_calls part.Over = 0

-- a process that hasn't ended has no output, and its call links are as many as its checkpoint counts
abbrev pub is_settled : List Link → ProcessRecord → Bool
is_settled links r = has_ended r.state || (not (has_output r.node links) && (calls_from r.node links == counted_calls r.part))

-- the first process, in order of their numbers, that isn't settled
abbrev pub unsettled : List Link → List ProcessRecord → Option ℕ
unsettled links [] = None
unsettled links (r ∷ rs) = if is_settled links r then unsettled links rs else Some r.node
