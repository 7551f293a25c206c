use Rattle.std.proofs.Common.{ap, ◌∙◌}
use Rattle.serde_json.specs.View.{view}
use Rattle.serde_json.proofs.Views.{view-Array}
use Rattle.std.specs.Prelude.{All}
use Rattle.wc_json.specs.Writing.{elements_by}
use Rattle.wc_archive_file.specs.Archives.{IsLink, link_data}
use Rattle.wc_archive_file.proofs.Objects.{array_read}
use Rattle.wc_archive_file.proofs.file.links_in.Goals as goal

pub returns-in-Array : goal.returns-in-Array
returns-in-Array c = array_read (elements_by link_data) (All IsLink) _ _ _ (ap view c.in-Array.is ∙ view-Array _) c.links_of.ensures
