use Rattle.std.proofs.Common.{ap}
use Rattle.serde_json.specs.View.{items_of}
use Rattle.wc_archive_file.specs.Archives.{node_data}
use Rattle.wc_archive_file.proofs.Items.{all_written}
use Rattle.wc_archive_file.proofs.writing.nodes_json.Goals as goal

pub returns : goal.returns
returns c = all_written node_data _ _ _ _ (ap items_of c.loop-node.invariant) c.loop-node-test.false c.as_slice-node-items.ensures
