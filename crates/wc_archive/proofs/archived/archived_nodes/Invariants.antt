use Rattle.std.proofs.Common.{◌≡◌}
use Rattle.std.specs.List.{filter_map}
use Rattle.wc_archive.specs.Closure.{archived_node}
use Rattle.wc_archive.proofs.Marking.{front}
use Rattle.wc_archive.proofs.archived.archived_nodes.Given as goal

abbrev pub invariant-loop-id : goal.invariant-loop-id
invariant-loop-id l = l.nodes ≡ filter_map (archived_node l.world.world) (front l.marks l.id)
