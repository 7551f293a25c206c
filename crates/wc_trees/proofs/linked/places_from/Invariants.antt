use Rattle.std.proofs.Common.{◌≡◌, ◌≤◌, [], length, drop}
use Rattle.wc_graph.specs.Index.{source_of}
use Rattle.wc_world.specs.Linked.{upwards, of_node}
use Rattle.wc_trees.proofs.linked.places_from.Given as goal

abbrev pub invariant-loop-at : goal.invariant-loop-at
invariant-loop-at l = (l.at ≤ length l.graph.links) × (of_node source_of l.pid (upwards l.graph.links l.places.items []) ≡ of_node source_of l.pid (drop l.at l.graph.links))

abbrev pub decreases-loop-at : goal.decreases-loop-at
decreases-loop-at l = l.at
