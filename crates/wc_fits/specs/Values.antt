-- The values of data nodes, and of the inputs and outputs of a process.
use Rattle.std.specs.Prelude.{ℕ, if◌then◌else◌, List, [], ◌∷◌, Option, Some, None, option_and_then}
use Rattle.wc_value.specs.Ascending.{put}
use Rattle.wc_value.specs.declared.value.Value.{Value}
use Rattle.wc_graph.specs.Rules.{node_of}
use Rattle.wc_graph.specs.declared.node.NodeKind.{NodeKind}
use Rattle.wc_graph.specs.declared.node.NodeKind.TheVariants as node
use Rattle.wc_graph.specs.declared.link.Link.{Link}
use Rattle.wc_state.specs.declared.environment.NodeValue.{NodeValue}
use Rattle.wc_fits.specs.World.{World}
use Rattle.wc_fits.specs.Records.{is_input_of, is_output_of}

-- the value of a node, if it is data
abbrev pub data_of : NodeKind → Option Value
data_of (node.Data v) = Some v
data_of node.Calculation = None
data_of node.Workflow = None

-- the value of a data node
abbrev pub value_of : List NodeKind → ℕ → Option Value
value_of nodes id = option_and_then data_of (node_of nodes id)

-- ---- nodes by label

-- nodes with their values, by label
abbrev pub NamedValues : Type 0
NamedValues = List (List ℕ × NodeValue)

-- the entries with one more, where the node is data
abbrev pub with_value : List ℕ → ℕ → Option Value → NamedValues → NamedValues
with_value label id None entries = entries
with_value label id (Some v) entries = put label (record { node = id; value = v }) entries

-- what the links of a process lead from: its inputs, by label
abbrev pub inputs_after : List NodeKind → ℕ → List Link → NamedValues → NamedValues
inputs_after nodes pid [] entries = entries
inputs_after nodes pid (l ∷ ls) entries =
    inputs_after nodes pid ls (if is_input_of pid l then with_value l.label l.source (value_of nodes l.source) entries else entries)

-- the inputs of a process by port, along the links into it
abbrev pub inputs_of : World → ℕ → NamedValues
inputs_of w pid = inputs_after w.nodes pid w.links []

-- what the links of a process lead to: its outputs, by label
abbrev pub outputs_after : List NodeKind → ℕ → List Link → NamedValues → NamedValues
outputs_after nodes pid [] entries = entries
outputs_after nodes pid (l ∷ ls) entries =
    outputs_after nodes pid ls (if is_output_of pid l then with_value l.label l.target (value_of nodes l.target) entries else entries)

-- the outputs of a process by label, along the links from it
abbrev pub outputs_of : World → ℕ → NamedValues
outputs_of w pid = outputs_after w.nodes pid w.links []

-- labels with values, without the nodes
abbrev pub values_alone : NamedValues → List (List ℕ × Value)
values_alone [] = []
values_alone (e ∷ es) = (e.0, e.1.value) ∷ values_alone es
