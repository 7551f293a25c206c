use Rattle.wc_trees.proofs.TreeLaws.{outputs_linked}
use Rattle.wc_trees.proofs.laws.outputs_are_linked.Goals as goal

pub returns : goal.returns
returns c = outputs_linked
