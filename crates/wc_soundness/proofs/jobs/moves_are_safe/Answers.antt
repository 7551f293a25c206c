use Rattle.wc_soundness.proofs.SoundMoves.{moves_safe}
use Rattle.wc_soundness.proofs.jobs.moves_are_safe.Goals as goal

pub returns : goal.returns
returns c = moves_safe
