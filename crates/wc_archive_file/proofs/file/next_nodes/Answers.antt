use Rattle.serde_json.specs.Data.{no_members}
use Rattle.wc_archive_file.specs.Archives.{AreNodes, nodes_data}
use Rattle.wc_archive_file.proofs.Steps.{next_none, next_read}
use Rattle.wc_archive_file.proofs.file.next_nodes.Goals as goal

pub returns-in-Some : goal.returns-in-Some
returns-in-Some c = next_read nodes_data AreNodes _ _ _ _ _ c.in-Some.ensures c.nodes_in.ensures

pub returns-in-None : goal.returns-in-None
returns-in-None c = next_none nodes_data AreNodes _ _ no_members c.in-None.ensures
