use Rattle.std.proofs.Common.{◌≡◌, ◌+◌, ◌*◌, ◌++◌, [], vec_len}
use Rattle.std.specs.Option.{option_map}
use Rattle.wc_world.specs.Trees.{branches, tree_within}
use Rattle.wc_world.specs.Linked.{upwards}
use Rattle.wc_trees.proofs.trees.+tree_within.Given as goal

abbrev pub decreases-tree_within : goal.decreases-tree_within
decreases-tree_within l = 2 * l.levels

abbrev pub decreases-branches : goal.decreases-branches
decreases-branches l = 2 * l.levels + 1

abbrev pub invariant-branches-loop-place : goal.invariant-branches-loop-place
invariant-branches-loop-place l =
    option_map (λ rest. l.calls ++ rest) (branches (tree_within l.levels l.world.world) l.pid (upwards l.world.world.links l.places.items []))
    ≡ branches (tree_within l.levels l.world.world) l.pid l.world.world.links

abbrev pub decreases-branches-loop-place : goal.decreases-branches-loop-place
decreases-branches-loop-place l = vec_len l.places
