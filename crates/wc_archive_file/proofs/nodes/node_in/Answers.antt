use Rattle.std.proofs.Common.{◌≡◌, subst}
use Rattle.serde_json.specs.View.{members_view}
use Rattle.wc_value.specs.declared.value.Value.{Value}
use Rattle.wc_archive_file.specs.Archives.{IsNode, IsValue, data_object, node_object}
use Rattle.wc_archive_file.proofs.Links.{no_node}
use Rattle.wc_archive_file.proofs.Steps.{passed}
use Rattle.wc_archive_file.proofs.nodes.node_in.Goals as goal

pub returns-in_err-process_in-in-Err-Shape : goal.returns-in_err-process_in-in-Err-Shape
returns-in_err-process_in-in-Err-Shape c =
    let none = rw c.in-Err-Shape.field-0-is at c.in-Err-Shape.ensures in
    passed node_object IsNode _ c.from_residual.result _ c.from_residual.ensures
    (no_node _ (subst (λ es. (v : Value) → IsValue v → members_view es ≡ data_object v → ⊥) c.iter.ensures.rest none) _ c.in_err-process_in-in-Err-Shape.ensures)
