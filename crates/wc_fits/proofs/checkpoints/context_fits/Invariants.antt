use Rattle.std.proofs.Common.{◌≡◌, drop, List, ℕ}
use Rattle.std.specs.List.{list_all}
use Rattle.wc_state.specs.declared.context.CtxRef.{CtxRef}
use Rattle.wc_fits.specs.Fits.{held_fits}
use Rattle.wc_fits.proofs.checkpoints.context_fits.Given as goal

abbrev pub invariant-loop-at : goal.invariant-loop-at
invariant-loop-at l =
    list_all (λ (e : List ℕ × CtxRef). held_fits l.records.0 e.1) (drop l.at l.ctx)
    ≡ list_all (λ (e : List ℕ × CtxRef). held_fits l.records.0 e.1) l.ctx
