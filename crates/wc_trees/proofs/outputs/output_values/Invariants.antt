use Rattle.std.proofs.Common.{◌≡◌, [], vec_len}
use Rattle.wc_world.specs.Linked.{upwards, plain_after}
use Rattle.wc_world.specs.Trees.{outputs_after, values_alone}
use Rattle.wc_trees.proofs.outputs.output_values.Given as goal

abbrev pub invariant-loop-place : goal.invariant-loop-place
invariant-loop-place l =
    plain_after l.graph.nodes l.pid (upwards l.graph.links l.places.items []) l.fields ≡ values_alone (outputs_after l.graph.nodes l.pid l.graph.links [])

abbrev pub decreases-loop-place : goal.decreases-loop-place
decreases-loop-place l = vec_len l.places
