use Rattle.wc_soundness.proofs.Begins.{beginnings_accepted}
use Rattle.wc_soundness.proofs.caching.beginnings_are_accepted.Goals as goal

pub returns : goal.returns
returns c = beginnings_accepted
