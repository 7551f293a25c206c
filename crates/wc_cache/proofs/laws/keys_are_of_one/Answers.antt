use Rattle.wc_cache.proofs.Parts.{of_one}
use Rattle.wc_cache.proofs.laws.keys_are_of_one.Goals as goal

pub returns : goal.returns
returns c = of_one
