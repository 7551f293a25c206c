use Rattle.std.proofs.Common.{ap, ◌∙◌}
use Rattle.serde_json.specs.View.{view}
use Rattle.serde_json.proofs.Views.{view-Array}
use Rattle.wc_json.specs.Writing.{elements_by}
use Rattle.wc_archive_file.specs.Archives.{AreNodes, node_data}
use Rattle.wc_archive_file.proofs.Objects.{array_read}
use Rattle.wc_archive_file.proofs.file.nodes_in.Goals as goal

pub returns-in-Array : goal.returns-in-Array
returns-in-Array c = array_read (elements_by node_data) AreNodes _ _ _ (ap view c.in-Array.is ∙ view-Array _) c.few_nodes.ensures
