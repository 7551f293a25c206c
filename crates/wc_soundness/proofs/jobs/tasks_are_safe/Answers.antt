use Rattle.wc_soundness.proofs.Tasks.{tasks_safe}
use Rattle.wc_soundness.proofs.jobs.tasks_are_safe.Goals as goal

pub returns : goal.returns
returns c = tasks_safe
