use Rattle.wc_soundness.proofs.CachedRuns.{caching_goes}
use Rattle.wc_soundness.proofs.small_worlds.caching_goes.Goals as goal

pub returns : goal.returns
returns c = caching_goes
