use Rattle.std.proofs.Common.{ap, sym, ◌∙◌}
use Rattle.serde_json.specs.Data.{array}
use Rattle.serde_json.specs.View.{items_view, view}
use Rattle.serde_json.proofs.Views.{view-Array}
use Rattle.wc_archive_file.specs.Archives.{IsLink, link_items}
use Rattle.wc_archive_file.proofs.Objects.{array_read}
use Rattle.wc_archive_file.proofs.nodes.link_of.Goals as goal

pub returns-in-Array : goal.returns-in-Array
returns-in-Array c =
    array_read link_items IsLink _ _ _ (ap view c.in-Array.is ∙ view-Array _ ∙ ap (λ vs. array (items_view vs)) (sym c.as_slice.ensures.value)) c.link_in.ensures
