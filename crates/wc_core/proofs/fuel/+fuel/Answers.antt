use Rattle.std.proofs.Common.{sym, ap, ◌∙◌, rules}
use Rattle.wc_machine.specs.Kills.{awaits_of}
use Rattle.wc_core.proofs.KillParts.{fuel_alone, fuel_with, none_awaited, sum_done}
use Rattle.wc_core.proofs.fuel.+fuel.Goals as goal

pub fuel_after-returns-in-Chain : goal.fuel_after-returns-in-Chain
fuel_after-returns-in-Chain t c =
    c.with_awaited.ensures
    ∙ sym (fuel_with c.args.levels c.args.world.now.world c.args.process.now c.as_slice.result.now c.if-levels-eq0.false (search rules)
    (ap awaits_of c.in-Chain.is ∙ sym c.as_slice.ensures))

pub fuel_after-returns-in-Fresh : goal.fuel_after-returns-in-Fresh
fuel_after-returns-in-Fresh t c =
    sym (fuel_alone c.args.levels c.args.world.now.world c.args.process.now c.if-levels-eq0.false (search rules) (none_awaited c.args.process.now.part c.in-Fresh.is) (search rules))

pub with_awaited-returns : goal.with_awaited-returns
with_awaited-returns t c =
    sum_done c.args.levels c.args.world.now.world c.args.awaiting.now c.loop-awaited.awaited-index c.loop-awaited.sum _ c.loop-awaited-test.false c.loop-awaited.invariant.fits
    c.loop-awaited.invariant.rest
