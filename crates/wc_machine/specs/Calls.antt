-- What a work chain adds with its calls, and how it binds and ends.
use Rattle.std.specs.Prelude.{ℕ, zero, suc, ◌+◌, ◌==◌, Bool, false, not, ◌&&◌, ◌||◌, if◌then◌else◌, List, [], ◌∷◌, ◌++◌, length, is_none, Option, Some, None, slice_get}
use Rattle.wc_value.specs.Ascending.{lookup}
use Rattle.wc_value.specs.declared.process.ProcessState.{ProcessState}
use Rattle.wc_value.specs.declared.process.ProcessState.TheVariants as state
use Rattle.wc_syntax.specs.Findings.{is_among}
use Rattle.wc_syntax.specs.declared.definition.Definition.{Definition}
use Rattle.wc_syntax.specs.declared.definition.Port.{Port}
use Rattle.wc_graph.specs.declared.link.LinkType.{LinkType}
use Rattle.wc_graph.specs.declared.link.LinkType.TheVariants as link
use Rattle.wc_state.specs.Context.{Pairs, found_at, with_set}
use Rattle.wc_state.specs.declared.context.CtxRef.{CtxRef}
use Rattle.wc_state.specs.declared.context.CtxRef.TheVariants as held
use Rattle.wc_state.specs.declared.record.Await.{Await}
use Rattle.wc_state.specs.declared.record.Checkpoint.{Checkpoint}
use Rattle.wc_state.specs.declared.record.Part.{Part}
use Rattle.wc_state.specs.declared.record.Part.TheVariants as part
use Rattle.wc_state.specs.declared.record.ProcessKind.{ProcessKind}
use Rattle.wc_state.specs.declared.record.ProcessKind.TheVariants as kind
use Rattle.wc_state.specs.declared.record.ProcessRecord.{ProcessRecord}
use Rattle.wc_semantics.specs.Tables.{Label}
use Rattle.wc_world.specs.declared.change.Change.{Change}
use Rattle.wc_world.specs.declared.change.Change.TheVariants as change
use Rattle.wc_world.specs.World.{World, Known}
use Rattle.wc_world.specs.Records.{find_record, definition_in, kind_of_definition}
use Rattle.wc_machine.specs.Advances.{Advanced, goes, loops, submits, ends}
use Rattle.wc_machine.specs.Steps.{Argument, node, plain, Call}
use Rattle.wc_machine.specs.Submissions.{input_link}
use Rattle.wc_machine.specs.Tasks.{saturated}

-- ---- calls

-- a library that is checked has each definition that it calls
abbrev pub kind_named : Option Definition → ProcessKind
kind_named None = kind.Function
kind_named (Some d) = kind_of_definition d

-- the type of the link of a call, by what is called
abbrev pub call_link : ProcessKind → LinkType
call_link kind.Function = link.CallCalc
call_link kind.Job = link.CallCalc
call_link kind.Chain = link.CallWork

-- the names with caching on of a library with which a process was submitted
abbrev pub caching_of : Option Known → List (List ℕ)
caching_of None = []
caching_of (Some k) = k.1

-- the names with caching on in the library with this number, counted from 1
abbrev pub caching_in : List Known → ℕ → List (List ℕ)
caching_in libraries zero = []
caching_in libraries (suc place) = caching_of (slice_get libraries place)

-- the arguments of a call by port
abbrev pub Arguments : Type 0
Arguments = List (List ℕ × Argument)

-- the plain arguments as data nodes, in byte order of the ports
abbrev pub plain_data : Arguments → List Change
plain_data [] = []
plain_data ((port, node n) ∷ rest) = plain_data rest
plain_data ((port, plain v) ∷ rest) = change.Data v ∷ plain_data rest

-- the links of all arguments, where the first plain one has this node
abbrev pub argument_links : LinkType → (next pid : ℕ) → Arguments → List Change
argument_links type next pid [] = []
argument_links type next pid ((port, node n) ∷ rest) =
    change.Link (record { source = n.node; target = pid; link = type; label = port }) ∷ argument_links type next pid rest
argument_links type next pid ((port, plain v) ∷ rest) =
    change.Link (record { source = next; target = pid; link = type; label = port }) ∷ argument_links type (suc next) pid rest

module _ (w : World) (r : ProcessRecord) where
  -- the kind of process that a call makes
  abbrev pub kind_of_callee : Call → ProcessKind
  kind_of_callee c = kind_named (definition_in w.libraries r.library c.definition)

  -- the number that a called process gets, where this is the next number
  abbrev pub called_number : ℕ → Call → ℕ
  called_number next c = next + length (plain_data c.args)

  -- plain arguments, the process, its input links and its call link
  abbrev pub call_changes : ℕ → Call → List Change
  call_changes next c =
      plain_data c.args
      ++ (change.Process (record {
        kind = kind_of_callee c;
        definition = c.definition;
        library = r.library;
        depth = suc r.depth;
        label = c.label;
        caching = is_among c.definition (caching_in w.libraries r.library);
      })
      ∷ (argument_links (input_link (kind_of_callee c)) next (called_number next c) c.args
      ++ change.Link (record { source = r.node; target = called_number next c; link = call_link (kind_of_callee c); label = c.label }) ∷ []))

  -- the changes of calls one after another, which make nodes from this number on
  abbrev pub calls_changes : ℕ → List Call → List Change
  calls_changes next [] = []
  calls_changes next (c ∷ cs) = call_changes next c ++ calls_changes (suc (called_number next c)) cs

  -- what is awaited of calls one after another, each under its key
  abbrev pub awaits : ℕ → List Call → List Await
  awaits next [] = []
  awaits next (c ∷ cs) = record { key = c.key; append = c.append; pid = called_number next c } ∷ awaits (suc (called_number next c)) cs

  -- ---- what the chain is from now on

  -- the change that sets a chain's state, fuel and part
  abbrev pub chain_set : ProcessState → ℕ → Part → Change
  chain_set s fuel p = change.Set (record { pid = r.node; state = s; paused = false; cached_from = 0; fuel = fuel; code = None; part = p })

  -- whether a required port has no output
  abbrev pub lacks : List Port → List (Label × ℕ) → Bool
  lacks [] outputs = false
  lacks (p ∷ ps) outputs = (not p.optional && is_none (lookup p.name.text outputs)) || lacks ps outputs

  -- an end with 0 and a required output missing is one with 11
  abbrev pub judged : List Port → ProcessState → List (Label × ℕ) → ProcessState
  judged ports (state.Finished n) outputs = state.Finished (if (n == 0) && lacks ports outputs then 11 else n)
  judged ports s outputs = s

  -- the links that return a chain's outputs
  abbrev pub returns : List (Label × ℕ) → List Change
  returns [] = []
  returns (o ∷ os) = change.Link (record { source = r.node; target = o.1; link = link.Return; label = o.0 }) ∷ returns os

  -- only a chain that finished has outputs
  abbrev pub kept_outputs : ProcessState → List (Label × ℕ) → List Change
  kept_outputs (state.Finished n) outputs = returns outputs
  kept_outputs s outputs = []

  -- a checkpoint that awaits these and has made so many calls
  abbrev pub with_awaits : Checkpoint → List Await → ℕ → Checkpoint
  with_awaits c waited calls = record { frames = c.frames; ctx = c.ctx; awaiting = waited; calls = calls; outputs = c.outputs }

  -- the changes of what an advance of a work chain comes to: it goes on, turns a loop, submits calls or ends
  abbrev pub advanced : List Port → Advanced → List Change
  advanced ports (goes c) = chain_set state.Running r.fuel (part.Chain c) ∷ []
  advanced ports (loops c) = chain_set state.Running (saturated (r.fuel + 1)) (part.Chain c) ∷ []
  advanced ports (submits c calls) =
      calls_changes (length w.nodes + 1) calls
      ++ chain_set state.Waiting r.fuel (part.Chain (with_awaits c (awaits (length w.nodes + 1) calls) (c.calls + length calls))) ∷ []
  advanced ports (ends s outputs) = kept_outputs s outputs ++ chain_set (judged ports s outputs) r.fuel part.Over ∷ []

-- ---- binding

-- the processes that a key's list holds
abbrev pub children_at : Option CtxRef → List ℕ
children_at (Some (held.Many pids)) = pids
children_at _ = []

-- a child is set at its key, or added to the list of children there
abbrev pub joined : Bool → Option CtxRef → ℕ → CtxRef
joined append before pid = if append then held.Many (children_at before ++ pid ∷ []) else held.One pid

-- a context once the awaited processes are bound, in their order
abbrev pub bound_in : Pairs → List Await → Pairs
bound_in ctx [] = ctx
bound_in ctx (a ∷ rest) = bound_in (with_set ctx a.key (joined a.append (found_at ctx a.key) a.pid)) rest

-- a checkpoint once all that it awaits is bound to its keys
abbrev pub bound : Checkpoint → Checkpoint
bound c = record { frames = c.frames; ctx = bound_in c.ctx c.awaiting; awaiting = []; calls = c.calls; outputs = c.outputs }

-- the fuel that a record keeps, 0 where there is none
abbrev pub fuel_at : Option ProcessRecord → ℕ
fuel_at None = 0
fuel_at (Some r) = r.fuel

-- the fuel of the awaited children, each with 1 added
abbrev pub fuel_of : List ProcessRecord → List Await → ℕ
fuel_of records [] = 0
fuel_of records (a ∷ rest) = suc (fuel_at (find_record a.pid records)) + fuel_of records rest
