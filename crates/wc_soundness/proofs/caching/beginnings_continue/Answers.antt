use Rattle.wc_soundness.proofs.Begins.{beginnings_continue}
use Rattle.wc_soundness.proofs.caching.beginnings_continue.Goals as goal

pub returns : goal.returns
returns c = beginnings_continue
