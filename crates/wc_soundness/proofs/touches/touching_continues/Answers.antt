use Rattle.wc_soundness.proofs.Touched.{touching_continues}
use Rattle.wc_soundness.proofs.touches.touching_continues.Goals as goal

pub returns : goal.returns
returns c = touching_continues
