use Rattle.std.proofs.Common.{subst}
use Rattle.wc_verify.specs.Faults.{IsLowestWrong}
use Rattle.wc_act.specs.Views.{value}
use Rattle.wc_act.proofs.Verifying.{replied}
use Rattle.wc_act.proofs.views.values_checked.Goals as goal

pub returns-in-Some : goal.returns-in-Some
returns-in-Some c =
    let w = c.args.world.now.world in
    replied w c.unsound.result _ c.unsound.ensures (value c.in-Some.pid c.requires (subst (IsLowestWrong w) c.in-Some.is c.in_ok-pid.ensures))
