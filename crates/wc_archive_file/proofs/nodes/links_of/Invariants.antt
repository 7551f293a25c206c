use Rattle.wc_archive_file.specs.Archives.{IsLink, link_data}
use Rattle.wc_archive_file.proofs.Items.{ReadSoFar}
use Rattle.wc_archive_file.proofs.nodes.links_of.Given as goal

abbrev pub invariant-loop-item : goal.invariant-loop-item
invariant-loop-item l = ReadSoFar link_data IsLink l.item-items l.item-index l.links
