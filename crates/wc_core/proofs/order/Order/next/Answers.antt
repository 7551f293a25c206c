use Rattle.std.proofs.Common.{sym, subst}
use Rattle.wc_machine.specs.Readiness.{ready_at}
use Rattle.wc_core.specs.Order.{IsNextOf}
use Rattle.wc_core.specs.declared.order.Order.{Order}
use Rattle.wc_core.specs.declared.order.Order.TheVariants.{Round}
use Rattle.wc_core.proofs.Chosen.{round_goes}
use Rattle.wc_core.proofs.order.Order.next.Goals as goal

pub returns-in-Round : goal.returns-in-Round
returns-in-Round c =
    let ids = ready_at c.args.world.now.world c.args.now in
    let goes = round_goes ids c.in-Round.last c.in_round.new.last c.in_round.result c.in_round.ensures.next c.in_round.ensures.last in
    subst (λ (o : Order). IsNextOf ids o (Round c.in_round.new.last) c.in_round.result) (sym c.in-Round.is) goes
