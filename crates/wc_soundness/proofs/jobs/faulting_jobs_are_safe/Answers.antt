use Rattle.wc_soundness.proofs.FaultingJobs.{faulting_jobs_safe}
use Rattle.wc_soundness.proofs.jobs.faulting_jobs_are_safe.Goals as goal

pub returns : goal.returns
returns c = faulting_jobs_safe
