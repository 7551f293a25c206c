use Rattle.std.proofs.Common.{◌≡◌, drop}
use Rattle.std.specs.List.{list_all}
use Rattle.wc_state.specs.declared.record.Await.{Await}
use Rattle.wc_fits.specs.Records.{has_called}
use Rattle.wc_fits.proofs.checkpoints.awaits_fit.Given as goal

abbrev pub invariant-loop-awaited : goal.invariant-loop-awaited
invariant-loop-awaited l =
    list_all (λ (a : Await). has_called l.graph.links l.fn.node a.pid) (drop l.awaited-index l.awaited-items)
    ≡ list_all (λ (a : Await). has_called l.graph.links l.fn.node a.pid) l.awaited-items
