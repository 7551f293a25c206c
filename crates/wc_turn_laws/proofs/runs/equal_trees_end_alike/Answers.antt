use Rattle.wc_turn_laws.proofs.Blind.{equal_trees_end_alike}
use Rattle.wc_turn_laws.proofs.runs.equal_trees_end_alike.Goals as goal

pub returns : goal.returns
returns c = equal_trees_end_alike
