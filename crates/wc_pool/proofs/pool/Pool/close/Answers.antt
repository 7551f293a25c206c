use Rattle.wc_pool.proofs.Seated.{closed_fits}
use Rattle.wc_pool.proofs.pool.Pool.close.Goals as goal

pub returns-clause-fits : goal.returns-clause-fits
returns-clause-fits c = closed_fits c.args.self.now c.end.new.self c.args.worker c.args.lease c.requires.leased c.requires.current c.end.ensures.closed c.turns_leave_others.ensures
