use Rattle.std.proofs.Common.{◌≡◌, length, get_or, ℕ}
use Rattle.wc_pool.specs.Pools.{idle}
use Rattle.wc_pool.proofs.pool.Pool.new.Given as goal

abbrev pub invariant-loop : goal.invariant-loop
invariant-loop l = (length l.list.items ≡ l.counter) × ((k : ℕ) → get_or l.list.items k idle ≡ idle)
