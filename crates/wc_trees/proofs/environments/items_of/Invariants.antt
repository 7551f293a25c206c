use Rattle.std.proofs.Common.{◌≡◌, ◌++◌, drop}
use Rattle.std.specs.Prelude.{take}
use Rattle.std.specs.Option.{option_map}
use Rattle.wc_world.specs.Trees.{items_of}
use Rattle.wc_trees.proofs.Names.{names}
use Rattle.wc_trees.proofs.environments.items_of.Given as goal

abbrev pub invariant-loop-at : goal.invariant-loop-at
invariant-loop-at l = (option_map (λ rest. l.items ++ rest) (items_of l.world.world (drop l.at l.ctx)) ≡ items_of l.world.world l.ctx) × (names l.items ≡ names (take l.at l.ctx))
