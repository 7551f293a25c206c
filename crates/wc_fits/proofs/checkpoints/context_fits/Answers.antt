use Rattle.std.proofs.Common.{ℕ, List}
use Rattle.wc_state.specs.declared.context.CtxRef.{CtxRef}
use Rattle.wc_fits.specs.Fits.{held_fits}
use Rattle.wc_fits.proofs.Places.{all_more, all_fails}
use Rattle.wc_fits.proofs.checkpoints.context_fits.Goals as goal

pub returns-then-not-place_fits : goal.returns-then-not-place_fits
returns-then-not-place_fits c =
    all_fails (λ (e : List ℕ × CtxRef). held_fits c.args.records.now.0 e.1) c.args.ctx.now c.loop-at.at c.place_fits.result
    c.place_fits.ensures c.if-not-place_fits.true c.loop-at.invariant

pub loop-at-preserved : goal.loop-at-preserved
loop-at-preserved c =
    all_more (λ (e : List ℕ × CtxRef). held_fits c.args.records.now.0 e.1) c.args.ctx.now c.loop-at.at c.place_fits.result
    c.place_fits.ensures c.if-not-place_fits.false c.loop-at.invariant
