use Rattle.std.proofs.Common.{◌+◌, sym, ◌∙◌, arith}
use Rattle.wc_pool.specs.Pools.{is_free}
use Rattle.wc_pool.proofs.Seated.{find_on}
use Rattle.wc_pool.proofs.pool.Pool.lowest_free.Goals as goal

pub loop-pid-preserved : goal.loop-pid-preserved
loop-pid-preserved c =
    find_on (is_free c.args.self.now c.args.now) c.as_slice-pid-items.result.now c.loop-pid.pid-index (c.loop-pid.pid-index + 1) (omega arith) c.loop-pid-test.true (sym c.is_free.ensures ∙ c.if-is_free.false)
    ∙ c.loop-pid.invariant
