use Rattle.wc_soundness.proofs.Moves.{moves_accepted}
use Rattle.wc_soundness.proofs.jobs.moves_are_accepted.Goals as goal

pub returns : goal.returns
returns c = moves_accepted
