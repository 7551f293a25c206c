use Rattle.wc_soundness.proofs.JobEnds.{live_ends_accepted}
use Rattle.wc_soundness.proofs.jobs.live_ends_are_accepted.Goals as goal

pub returns : goal.returns
returns c = live_ends_accepted
