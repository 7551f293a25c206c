use Rattle.wc_soundness.proofs.FaultingJobs.{waiting_jobs_ask}
use Rattle.wc_soundness.proofs.jobs.waiting_jobs_ask.Goals as goal

pub returns : goal.returns
returns c = waiting_jobs_ask
