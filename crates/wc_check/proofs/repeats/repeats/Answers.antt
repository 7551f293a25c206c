use Rattle.std.proofs.Common.{◌∙◌, ◌+◌, ap, sym, drop, map}
use Rattle.wc_syntax.specs.Findings.{repeats_after}
use Rattle.wc_check.specs.Least.{least_after}
use Rattle.wc_check.proofs.Leasts.{drop_at}
use Rattle.wc_check.proofs.Repeated.{repeat_turn}
use Rattle.wc_check.proofs.repeats.repeats.Goals as goal

pub loop-item-preserved : goal.loop-item-preserved
loop-item-preserved g c =
    repeat_turn c.loop-item.best c.meet.new.best c.loop-item.names c.meet.new.names _ _ (g.T.Placed.placed c.item-item.result) (map g.T.Placed.placed (drop (c.loop-item.item-index + 1) c.args.items.now))
    (c.name.ensures) (c.at.ensures) (c.in_ok-meet.ensures.best) (c.in_ok-meet.ensures.names)
    ∙ ap (λ xs. least_after c.loop-item.best (repeats_after c.loop-item.names (map g.T.Placed.placed xs))) (sym (drop_at c.args.items.now c.loop-item.item-index c.item-item.result c.loop-item-test.true c.item-item.is))
    ∙ c.loop-item.invariant
