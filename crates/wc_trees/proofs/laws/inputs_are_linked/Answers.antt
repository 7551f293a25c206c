use Rattle.wc_trees.proofs.TreeLaws.{inputs_linked}
use Rattle.wc_trees.proofs.laws.inputs_are_linked.Goals as goal

pub returns : goal.returns
returns c = inputs_linked
