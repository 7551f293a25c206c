use Rattle.std.proofs.Common.{◌≡◌, drop, List, ℕ}
use Rattle.std.specs.List.{list_all}
use Rattle.wc_graph.specs.Rules.{node_of}
use Rattle.wc_fits.specs.Fits.{is_data_node}
use Rattle.wc_fits.proofs.checkpoints.outputs_fit.Given as goal

abbrev pub invariant-loop-id : goal.invariant-loop-id
invariant-loop-id l =
    list_all (λ (o : List ℕ × ℕ). is_data_node (node_of l.nodes o.1)) (drop l.id-index l.id-items)
    ≡ list_all (λ (o : List ℕ × ℕ). is_data_node (node_of l.nodes o.1)) l.id-items
