use Rattle.std.proofs.Common.{ap, ◌∙◌}
use Rattle.serde_json.specs.View.{view}
use Rattle.serde_json.proofs.Views.{view-Object}
use Rattle.wc_archive_file.specs.Archives.{IsNode, node_object}
use Rattle.wc_archive_file.proofs.Objects.{object_read}
use Rattle.wc_archive_file.proofs.nodes.node_of.Goals as goal

pub returns-in-Object : goal.returns-in-Object
returns-in-Object c = object_read node_object IsNode _ _ _ (ap view c.in-Object.is ∙ view-Object _) c.node_in.ensures
