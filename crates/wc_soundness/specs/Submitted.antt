-- The world after a work chain submitted calls.
use Rattle.std.specs.Prelude.{ℕ, suc, ◌+◌, false, List, [], ◌∷◌, ◌++◌, length, None}
use Rattle.wc_graph.specs.declared.link.Link.{Link}
use Rattle.wc_graph.specs.declared.link.LinkType.{LinkType}
use Rattle.wc_graph.specs.declared.node.NodeKind.{NodeKind}
use Rattle.wc_graph.specs.declared.node.NodeKind.TheVariants as kind
use Rattle.wc_syntax.specs.Findings.{is_among}
use Rattle.wc_value.specs.declared.process.ProcessState.TheVariants as state
use Rattle.wc_state.specs.declared.record.Checkpoint.{Checkpoint}
use Rattle.wc_state.specs.declared.record.Part.TheVariants as part
use Rattle.wc_state.specs.declared.record.ProcessRecord.{ProcessRecord}
use Rattle.wc_records.specs.declared.change.NewProcess.{NewProcess}
use Rattle.wc_records.specs.declared.change.SetProcess.{SetProcess}
use Rattle.wc_world.specs.Applied.{made, set}
use Rattle.wc_world.specs.Records.{at_process, process_node}
use Rattle.wc_world.specs.World.{World}
use Rattle.wc_machine.specs.Calls.{Arguments, awaits, called_number, call_link, caching_in, kind_of_callee, with_awaits}
use Rattle.wc_machine.specs.Steps.{node, plain, Call}
use Rattle.wc_machine.specs.Submissions.{input_link}

-- ---- arguments

-- the plain arguments as data nodes, in byte order of the ports
abbrev pub data_nodes : Arguments → List NodeKind
data_nodes [] = []
data_nodes ((port, node n) ∷ rest) = data_nodes rest
data_nodes ((port, plain v) ∷ rest) = kind.Data v ∷ data_nodes rest

-- the links of all arguments, where the first plain one has this node
abbrev pub input_links : LinkType → (next pid : ℕ) → Arguments → List Link
input_links type next pid [] = []
input_links type next pid ((port, node n) ∷ rest) = record { source = n.node; target = pid; link = type; label = port } ∷ input_links type next pid rest
input_links type next pid ((port, plain v) ∷ rest) = record { source = next; target = pid; link = type; label = port } ∷ input_links type (suc next) pid rest

-- ---- one call

module _ (w : World) (r : ProcessRecord) where
  -- the process that a call makes
  abbrev pub child_of : Call → NewProcess
  child_of c = record {
    kind = kind_of_callee w r c;
    definition = c.definition;
    library = r.library;
    depth = suc r.depth;
    label = c.label;
    caching = is_among c.definition (caching_in w.libraries r.library);
  }

  -- the record of the called process, where this is the next number
  abbrev pub child_record : ℕ → Call → ProcessRecord
  child_record next c = made (called_number w r next c) (child_of c)

  -- the nodes that a call adds: its new values and its process
  abbrev pub call_nodes : Call → List NodeKind
  call_nodes c = data_nodes c.args ++ process_node (kind_of_callee w r c) ∷ []

  -- the link from the chain to the process of a call
  abbrev pub its_call_link : ℕ → Call → Link
  its_call_link next c = record { source = r.node; target = called_number w r next c; link = call_link (kind_of_callee w r c); label = c.label }

  -- the links that a call adds: of its arguments, and its own
  abbrev pub call_links : ℕ → Call → List Link
  call_links next c = input_links (input_link (kind_of_callee w r c)) next (called_number w r next c) c.args ++ its_call_link next c ∷ []

  -- ---- all calls

  -- the nodes that calls add
  abbrev pub calls_nodes : List Call → List NodeKind
  calls_nodes [] = []
  calls_nodes (c ∷ cs) = call_nodes c ++ calls_nodes cs

  -- the links that calls add
  abbrev pub calls_links : ℕ → List Call → List Link
  calls_links next [] = []
  calls_links next (c ∷ cs) = call_links next c ++ calls_links (suc (called_number w r next c)) cs

  -- the records that calls add
  abbrev pub calls_records : ℕ → List Call → List ProcessRecord
  calls_records next [] = []
  calls_records next (c ∷ cs) = child_record next c ∷ calls_records (suc (called_number w r next c)) cs

  -- the call links alone
  abbrev pub links_of_calls : ℕ → List Call → List Link
  links_of_calls next [] = []
  links_of_calls next (c ∷ cs) = its_call_link next c ∷ links_of_calls (suc (called_number w r next c)) cs

  -- what holds of each call with the number that is the next one before it
  abbrev pub EachCall : (ℕ → Call → Type 0) → ℕ → List Call → Type 0
  EachCall P next [] = Unit {0}
  EachCall P next (c ∷ cs) = P next c × EachCall P (suc (called_number w r next c)) cs

  -- ---- the chain waits

  -- the number of the next node
  abbrev pub first_free : ℕ
  first_free = length w.nodes + 1

  -- a chain's checkpoint once it waits for these calls
  abbrev pub waiting_at : Checkpoint → List Call → Checkpoint
  waiting_at d calls = with_awaits w r d (awaits w r first_free calls) (d.calls + length calls)

  -- how a chain is set once it waits for these calls
  abbrev pub waits_at : Checkpoint → List Call → SetProcess
  waits_at d calls = record { pid = r.node; state = state.Waiting; paused = false; cached_from = 0; fuel = r.fuel; code = None; part = part.Chain (waiting_at d calls) }

  -- the record of a chain that waits for the calls that it submitted
  abbrev pub now_waits : Checkpoint → List Call → ProcessRecord
  now_waits d calls = set (w.batches + 1) (waits_at d calls) r

  -- The world after the calls: nodes and links of the calls one after another, the chain's record set, and a record for each call.
  abbrev pub submitted : Checkpoint → List Call → World
  submitted d calls = record {
    nodes = w.nodes ++ calls_nodes calls;
    links = w.links ++ calls_links first_free calls;
    records = at_process r.node (set (w.batches + 1) (waits_at d calls)) w.records ++ calls_records first_free calls;
    libraries = w.libraries;
    batches = w.batches + 1;
  }
