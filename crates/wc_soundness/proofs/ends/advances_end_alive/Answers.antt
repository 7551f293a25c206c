use Rattle.wc_soundness.proofs.Alive.{advances_end_alive}
use Rattle.wc_soundness.proofs.ends.advances_end_alive.Goals as goal

pub returns : goal.returns
returns c = advances_end_alive
