use Rattle.wc_trees.proofs.TreeLaws.{trees_unfold}
use Rattle.wc_trees.proofs.laws.recorded_trees_unfold.Goals as goal

pub returns : goal.returns
returns c = trees_unfold
