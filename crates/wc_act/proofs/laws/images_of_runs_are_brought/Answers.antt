use Rattle.wc_act.proofs.SoundDeeds.{images_brought}
use Rattle.wc_act.proofs.laws.images_of_runs_are_brought.Goals as goal

pub returns : goal.returns
returns g c = images_brought g.T.Transport g.P.Pacer
