use Rattle.std.proofs.Common.{◌≡◌, ◌++◌, drop}
use Rattle.std.specs.Option.{option_map}
use Rattle.wc_world.specs.Trees.{children_at}
use Rattle.wc_trees.proofs.environments.children_at.Given as goal

abbrev pub invariant-loop-pid : goal.invariant-loop-pid
invariant-loop-pid l = option_map (λ rest. l.children ++ rest) (children_at l.world.world (drop l.pid-index l.pid-items)) ≡ children_at l.world.world l.pid-items
