use Rattle.std.proofs.Common.{◌≡◌, map, take}
use Rattle.serde_json.specs.View.{view}
use Rattle.wc_archive_file.specs.Archives.{node_data}
use Rattle.wc_archive_file.proofs.writing.nodes_json.Given as goal

abbrev pub invariant-loop-node : goal.invariant-loop-node
invariant-loop-node l = map view l.items.items ≡ map node_data (take l.node-index l.node-items)
