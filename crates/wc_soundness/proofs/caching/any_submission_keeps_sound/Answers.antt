use Rattle.wc_soundness.proofs.Submissions.{any_submission}
use Rattle.wc_soundness.proofs.caching.any_submission_keeps_sound.Goals as goal

pub returns : goal.returns
returns c = any_submission
