use Rattle.wc_soundness.proofs.CachingTurns.{clones_continue}
use Rattle.wc_soundness.proofs.caching.clones_continue.Goals as goal

pub returns : goal.returns
returns c = clones_continue
