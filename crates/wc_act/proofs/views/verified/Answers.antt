use Rattle.std.proofs.Common.{subst}
use Rattle.wc_verify.specs.Faults.{IsLeastOnCycle}
use Rattle.wc_act.specs.Views.{cycle}
use Rattle.wc_act.proofs.Verifying.{replied}
use Rattle.wc_act.proofs.views.verified.Goals as goal

pub returns-in-Some : goal.returns-in-Some
returns-in-Some c =
    let w = c.args.world.now.world in
    replied w c.unsound.result _ c.unsound.ensures (cycle c.in-Some.node (subst (IsLeastOnCycle w.links) c.in-Some.is c.in_ok-node.ensures))
