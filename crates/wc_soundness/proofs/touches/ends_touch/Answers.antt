use Rattle.wc_soundness.proofs.TouchingEvents.{ends_touch}
use Rattle.wc_soundness.proofs.touches.ends_touch.Goals as goal

pub returns : goal.returns
returns c = ends_touch
