use Rattle.wc_soundness.proofs.JobEnds.{live_ends_touch}
use Rattle.wc_soundness.proofs.jobs.live_ends_touch.Goals as goal

pub returns : goal.returns
returns c = live_ends_touch
