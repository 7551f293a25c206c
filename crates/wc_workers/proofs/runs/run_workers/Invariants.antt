use Rattle.std.proofs.Common.{◌-◌}
use Rattle.wc_pool.specs.Pools.{workers_of}
use Rattle.wc_workers.proofs.OnWork.{OnWork}
use Rattle.wc_workers.proofs.runs.run_workers.Given as goal

abbrev pub invariant-work : goal.invariant-work
invariant-work g l =
    OnWork g.D.Disk g.T.Transport g.P.Pacer l.fn.limits (workers_of l.fn.pool) l.fn.seed l.fn.turns l.fn.store l.fn.one l.fn.two l.fn.transport l.fn.pacer l.fn.pool l.taken l.order l.store l.one l.two
    l.transport l.pacer l.pool

abbrev pub decreases-work : goal.decreases-work
decreases-work g l = l.turns - l.taken
