use Rattle.std.proofs.Common.{◌-◌}
use Rattle.wc_runner.proofs.OnTrail.{OnTrail}
use Rattle.wc_runner.proofs.runs.run.Given as goal

abbrev pub invariant-trip : goal.invariant-trip
invariant-trip g l =
    OnTrail g.D.Disk g.T.Transport g.P.Pacer l.fn.limits l.fn.seed l.fn.turns l.fn.store l.fn.one l.fn.two l.fn.transport l.fn.pacer l.taken l.order l.store l.one l.two l.transport l.pacer

abbrev pub decreases-trip : goal.decreases-trip
decreases-trip g l = l.turns - l.taken
