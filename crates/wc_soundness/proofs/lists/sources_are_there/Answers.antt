use Rattle.wc_soundness.proofs.LowestSources.{sources_are_there}
use Rattle.wc_soundness.proofs.lists.sources_are_there.Goals as goal

pub returns : goal.returns
returns c = sources_are_there
