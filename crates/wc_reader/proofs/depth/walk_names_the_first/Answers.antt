use Rattle.wc_reader.proofs.Nesting.{names_first}
use Rattle.wc_reader.proofs.depth.walk_names_the_first.Goals as goal

pub returns : goal.returns
returns c = names_first
