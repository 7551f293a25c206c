use Rattle.std.proofs.Common.{sym, ◌∙◌, arith, refl}
use Rattle.wc_world.proofs.ReachedWorlds.{reached_is_consistent}
use Rattle.wc_world.proofs.RecordedTrees.{no_tree}
use Rattle.wc_trees.proofs.trees.tree_of.Goals as goal

pub returns-in-None-clause-no_process : goal.returns-in-None-clause-no_process
returns-in-None-clause-no_process c =
    let w = c.args.world.now.world in
    ((λ _. no_tree w (reached_is_consistent w c.graph.ensures.reached) 16 c.args.pid (omega arith) (sym c.in-None.is ∙ c.in_ok-tree.ensures)), (λ _. refl))
