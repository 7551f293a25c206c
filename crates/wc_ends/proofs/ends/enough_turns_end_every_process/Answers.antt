use Rattle.wc_ends.proofs.EveryProcess.{enough_turns_end}
use Rattle.wc_ends.proofs.ends.enough_turns_end_every_process.Goals as goal

pub returns : goal.returns
returns g c = enough_turns_end g.T.Transport g.P.Pacer
