-- Looking up processes and definitions.
use Rattle.std.specs.Prelude.{ℕ, zero, suc, ◌<◌, ◌≤◌, Bool, true, false, ◌==◌, ◌&&◌, List, [], ◌∷◌, Option, None, slice_get, option_map, option_and_then}
use Rattle.std.specs.List.{list_any}
use Rattle.wc_syntax.specs.declared.definition.Definition.{Definition}
use Rattle.wc_syntax.specs.declared.definition.Definition.TheVariants as definition
use Rattle.wc_syntax.specs.Findings.{definition_named}
use Rattle.wc_graph.specs.declared.node.NodeKind.{NodeKind}
use Rattle.wc_graph.specs.declared.node.NodeKind.TheVariants as node
use Rattle.wc_graph.specs.declared.link.LinkType.{LinkType}
use Rattle.wc_graph.specs.declared.link.LinkType.TheVariants as link
use Rattle.wc_graph.specs.declared.link.Link.{Link}
use Rattle.wc_state.specs.declared.record.ProcessKind.{ProcessKind}
use Rattle.wc_state.specs.declared.record.ProcessKind.TheVariants as kind
use Rattle.wc_state.specs.declared.record.ProcessRecord.{ProcessRecord}
use Rattle.wc_fits.specs.World.{Known}
pub use Rattle.wc_records.specs.Records.{find_record, at_process, has_ended}

-- ---- processes

-- the node of a kind of process
abbrev pub process_node : ProcessKind → NodeKind
process_node kind.Function = node.Calculation
process_node kind.Job = node.Calculation
process_node kind.Chain = node.Workflow

-- whether a kind is that of a calculation
abbrev pub is_calculation : ProcessKind → Bool
is_calculation kind.Function = true
is_calculation kind.Job = true
is_calculation kind.Chain = false

-- The numbers of records ascend, above the first bound and up to the second.
abbrev pub Ascend : ℕ → List ProcessRecord → ℕ → Type 0
Ascend low [] high = Unit {0}
Ascend low (r ∷ rs) high = (low < r.node) × (r.node ≤ high) × Ascend r.node rs high

-- ---- links

-- the link is a call
abbrev pub calls : LinkType → Bool
calls link.InputCalc = false
calls link.InputWork = false
calls link.Create = false
calls link.Return = false
calls link.CallCalc = true
calls link.CallWork = true

-- the link leads from a process to an output
abbrev pub gives_output : LinkType → Bool
gives_output link.InputCalc = false
gives_output link.InputWork = false
gives_output link.Create = true
gives_output link.Return = true
gives_output link.CallCalc = false
gives_output link.CallWork = false

-- the link leads from an input to a process
abbrev pub takes_input : LinkType → Bool
takes_input link.InputCalc = true
takes_input link.InputWork = true
takes_input link.Create = false
takes_input link.Return = false
takes_input link.CallCalc = false
takes_input link.CallWork = false

-- a link is a call from this process
abbrev pub is_call_from : ℕ → Link → Bool
is_call_from pid l = calls l.link && (l.source == pid)

-- a link gives an output of this process
abbrev pub is_output_of : ℕ → Link → Bool
is_output_of pid l = gives_output l.link && (l.source == pid)

-- a link is an input of this process
abbrev pub is_input_of : ℕ → Link → Bool
is_input_of pid l = takes_input l.link && (l.target == pid)

-- one process called the other
abbrev pub has_called : List Link → ℕ → ℕ → Bool
has_called links caller pid = list_any (λ l. is_call_from caller l && (l.target == pid)) links

-- ---- definitions

-- the kind of process that a definition makes
abbrev pub kind_of_definition : Definition → ProcessKind
kind_of_definition (definition.Function f) = kind.Function
kind_of_definition (definition.Job j) = kind.Job
kind_of_definition (definition.Chain c) = kind.Chain

-- whether two kinds are the same
abbrev pub same_kind : ProcessKind → ProcessKind → Bool
same_kind kind.Function kind.Function = true
same_kind kind.Function kind.Job = false
same_kind kind.Function kind.Chain = false
same_kind kind.Job kind.Function = false
same_kind kind.Job kind.Job = true
same_kind kind.Job kind.Chain = false
same_kind kind.Chain kind.Function = false
same_kind kind.Chain kind.Job = false
same_kind kind.Chain kind.Chain = true

-- the library with this number, counted from 1
abbrev pub library_at : List Known → ℕ → Option (List Definition)
library_at libraries zero = None
library_at libraries (suc place) = option_map (λ k. k.0) (slice_get libraries place)

-- the definition of this name in that library
abbrev pub definition_in : List Known → ℕ → List ℕ → Option Definition
definition_in libraries number name = option_and_then (definition_named name) (library_at libraries number)
