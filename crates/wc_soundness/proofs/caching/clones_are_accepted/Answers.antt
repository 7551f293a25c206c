use Rattle.wc_soundness.proofs.CachingTurns.{clones_accepted}
use Rattle.wc_soundness.proofs.caching.clones_are_accepted.Goals as goal

pub returns : goal.returns
returns c = clones_accepted
