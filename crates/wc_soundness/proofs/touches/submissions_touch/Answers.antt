use Rattle.wc_soundness.proofs.TouchingEvents.{submissions_touch}
use Rattle.wc_soundness.proofs.touches.submissions_touch.Goals as goal

pub returns : goal.returns
returns c = submissions_touch
