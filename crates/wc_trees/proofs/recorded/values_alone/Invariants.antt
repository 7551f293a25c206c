use Rattle.std.proofs.Common.{◌≡◌, take}
use Rattle.wc_world.specs.Trees.{values_alone}
use Rattle.wc_trees.proofs.recorded.values_alone.Given as goal

abbrev pub invariant-loop-name : goal.invariant-loop-name
invariant-loop-name l = l.fields ≡ values_alone (take l.name-index l.name-items)
