use Rattle.wc_workers.proofs.Worked as worked
use Rattle.wc_workers.proofs.laws.works_are_logs.Goals as goal

pub returns : goal.returns
returns g c = λ limits. worked.works_are_logs g.T.Transport g.P.Pacer limits
