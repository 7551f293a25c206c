use Rattle.wc_pool.proofs.Seated.{taken_fits}
use Rattle.wc_pool.proofs.pool.Pool.take.Goals as goal

pub returns-clause-fits : goal.returns-clause-fits
returns-clause-fits c = taken_fits c.args.self.now c.begin.new.self c.args.worker c.in-Some.pid c.args.now c.in_ok-begin.ensures.taken
