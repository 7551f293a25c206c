-- Laws of recorded trees, outputs and inputs.
use Rattle.std.specs.Prelude.{◌≡◌, ◌↔◌, ℕ, true, List, Some, Contains, option_map, option_and_then}
use Rattle.wc_value.specs.Ascending.{lookup}
use Rattle.wc_graph.specs.declared.link.Link.{Link}
use Rattle.wc_state.specs.declared.environment.NodeValue.{NodeValue}
use Rattle.wc_world.specs.World.{World}
use Rattle.wc_world.specs.Records.{find_record, is_input_of, is_output_of}
use Rattle.wc_world.specs.Accepted.{IsReached}
use Rattle.wc_world.specs.Trees.{value_of, inputs_of, outputs_of, values_alone, branches, tree_with, recorded_tree}

-- A process's recorded tree has its definition, its state, its outputs, and what it called, each under its label with its own recorded tree.
abbrev pub TreesUnfold : Type 0
TreesUnfold = (w : World) → IsReached w → (pid : ℕ) → recorded_tree w pid
    ≡ option_and_then (λ r. option_map (tree_with r (values_alone (outputs_of w pid))) (branches (recorded_tree w) pid w.links)) (find_record pid w.records)

-- A process's outputs are what its links lead to: a label has a node with a value exactly where an output link of the process
-- has that label and leads to it.
abbrev pub OutputsAreLinked : Type 0
OutputsAreLinked = (w : World) → IsReached w → (pid : ℕ) (label : List ℕ) (e : NodeValue)
    → (lookup label (outputs_of w pid) ≡ Some e)
    ↔ ((l : Link) × Contains w.links l × (is_output_of pid l ≡ true) × (l.label ≡ label) × (l.target ≡ e.node) × (value_of w.nodes l.target ≡ Some e.value))

-- A process's inputs are what its links lead from: a label has a node with a value exactly where an input link of the process
-- has that label and leads from it.
abbrev pub InputsAreLinked : Type 0
InputsAreLinked = (w : World) → IsReached w → (pid : ℕ) (label : List ℕ) (e : NodeValue)
    → (lookup label (inputs_of w pid) ≡ Some e)
    ↔ ((l : Link) × Contains w.links l × (is_input_of pid l ≡ true) × (l.label ≡ label) × (l.source ≡ e.node) × (value_of w.nodes l.source ≡ Some e.value))
