use Rattle.wc_soundness.proofs.Moves.{moves_touch}
use Rattle.wc_soundness.proofs.jobs.moves_touch.Goals as goal

pub returns : goal.returns
returns c = moves_touch
