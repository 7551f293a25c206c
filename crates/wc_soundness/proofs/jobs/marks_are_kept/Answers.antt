use Rattle.wc_soundness.proofs.Marks.{marks_kept}
use Rattle.wc_soundness.proofs.jobs.marks_are_kept.Goals as goal

pub returns : goal.returns
returns c = marks_kept
