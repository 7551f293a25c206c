use Rattle.std.proofs.Common.{◌-◌}
use Rattle.wc_drill.proofs.UnderWay.{UnderWay}
use Rattle.wc_drill.proofs.submissions.submit_chains.Given as goal

abbrev pub invariant-chain : goal.invariant-chain
invariant-chain g l =
    UnderWay g.D.Disk l.fn.seed l.fn.count l.fn.store l.fn.one l.fn.two l.submitted l.draws.x l.store l.one l.two

abbrev pub decreases-chain : goal.decreases-chain
decreases-chain g l = l.count - l.submitted
