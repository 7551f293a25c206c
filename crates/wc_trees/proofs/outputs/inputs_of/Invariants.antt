use Rattle.std.proofs.Common.{◌≡◌, [], vec_len}
use Rattle.wc_world.specs.Linked.{upwards}
use Rattle.wc_world.specs.Trees.{inputs_after}
use Rattle.wc_trees.proofs.outputs.inputs_of.Given as goal

abbrev pub invariant-loop-place : goal.invariant-loop-place
invariant-loop-place l = inputs_after l.graph.nodes l.pid (upwards l.graph.links l.places.items []) l.named ≡ inputs_after l.graph.nodes l.pid l.graph.links []

abbrev pub decreases-loop-place : goal.decreases-loop-place
decreases-loop-place l = vec_len l.places
