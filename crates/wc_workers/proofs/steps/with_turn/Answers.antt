use Rattle.std.proofs.Common.{inl, refl}
use Rattle.wc_store.proofs.Stepping.{not_stepped}
use Rattle.wc_workers.specs.Steps.{IsOrHeldTurn}
use Rattle.wc_workers.proofs.steps.with_turn.Goals as goal

pub returns-in-Err-clause-stepped : goal.returns-in-Err-clause-stepped
returns-in-Err-clause-stepped g c =
    let s = c.args.store.now in
    not_stepped g.D.Disk (IsOrHeldTurn c.args.limits.now c.args.worker c.args.now c.args.pool.now s.world.world s.journal) s c.args.one.now c.args.two.now
    g.met.D.Disk.only_now c.requires.live c.requires.stands (inl (refl, refl))
