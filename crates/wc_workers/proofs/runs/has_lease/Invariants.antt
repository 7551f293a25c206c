use Rattle.std.proofs.Common.{◌≡◌, ◌<◌, ℕ}
use Rattle.wc_pool.specs.Pools.{seat_at}
use Rattle.wc_pool.specs.declared.pool.Seat.TheVariants.{Free}
use Rattle.wc_workers.proofs.runs.has_lease.Given as goal

abbrev pub invariant-loop-worker : goal.invariant-loop-worker
invariant-loop-worker l = (k : ℕ) → k < l.worker → seat_at l.pool k ≡ Free
