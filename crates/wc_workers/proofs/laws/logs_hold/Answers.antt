use Rattle.wc_workers.proofs.Logged as logged
use Rattle.wc_workers.proofs.laws.logs_hold.Goals as goal

pub returns : goal.returns
returns g c = λ limits. logged.logs_hold g.T.Transport limits c.turns_leave_others.ensures
