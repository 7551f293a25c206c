use Rattle.wc_archive_file.specs.Archives.{IsNode, node_data}
use Rattle.wc_archive_file.proofs.Items.{ReadSoFar}
use Rattle.wc_archive_file.proofs.nodes.nodes_of.Given as goal

abbrev pub invariant-loop-item : goal.invariant-loop-item
invariant-loop-item l = ReadSoFar node_data IsNode l.item-items l.item-index l.nodes
