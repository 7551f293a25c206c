use Rattle.std.proofs.Common.{◌≡◌, drop}
use Rattle.std.specs.List.{find}
use Rattle.wc_pool.specs.Pools.{is_free}
use Rattle.wc_pool.proofs.pool.Pool.lowest_free.Given as goal

abbrev pub invariant-loop-pid : goal.invariant-loop-pid
invariant-loop-pid l = find (is_free l.self l.now) (drop l.pid-index l.pid-items) ≡ find (is_free l.self l.now) l.pid-items
