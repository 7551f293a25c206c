use Rattle.wc_cache.proofs.Parts.{equal_keys}
use Rattle.wc_cache.proofs.laws.equal_keys_are_equal.Goals as goal

pub returns : goal.returns
returns c = equal_keys
