use Rattle.wc_soundness.proofs.Touched.{ended_stay}
use Rattle.wc_soundness.proofs.touches.ended_stay.Goals as goal

pub returns : goal.returns
returns c = ended_stay
