use Rattle.std.proofs.Common.{◌≡◌, ◌+◌, ◌<◌, ◌^◌, arith}
use Rattle.wc_pool.specs.Pools.{entry_at, epoch_of}
use Rattle.wc_pool.proofs.Seated.{next_epoch}
use Rattle.wc_pool.proofs.pool.Pool.begin.Goals as goal

pub overflow_add-epoch : goal.overflow_add-epoch
overflow_add-epoch c =
    let fits : epoch_of (entry_at c.args.self.now c.args.pid) + 1 < 2 ^ 64 = next_epoch (entry_at c.args.self.now c.args.pid) c.args.now c.requires.free in
    grind (arith, c.epoch-epoch.ensures, fits)
