use Rattle.wc_soundness.proofs.Marks.{marks_safe}
use Rattle.wc_soundness.proofs.jobs.marks_are_safe.Goals as goal

pub returns : goal.returns
returns c = marks_safe
