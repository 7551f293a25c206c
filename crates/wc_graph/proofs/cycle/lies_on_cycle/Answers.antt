use Rattle.std.proofs.Common.{sym, subst, ◌∙◌}
use Rattle.wc_graph.specs.Cycle.{CanSettle}
use Rattle.wc_graph.proofs.Settling.{can_settle_back, settles_back}
use Rattle.wc_graph.proofs.cycle.lies_on_cycle.Goals as goal

pub settle-requires-in-loop-round : goal.settle-requires-in-loop-round
settle-requires-in-loop-round c =
    let same = rw c.in_default.is at c.in_ok-answer.ensures.none in
    subst (CanSettle c.args.backward.now c.args.node) (sym (same ∙ c.loop-round.invariant))
    (can_settle_back c.args.forward.now c.args.backward.now c.args.node c.args.colours.now c.requires.converse c.requires.can)

pub returns-in-Some-2-clause-settles : goal.returns-in-Some-2-clause-settles
returns-in-Some-2-clause-settles c =
    settles_back c.args.forward.now c.args.backward.now c.args.node c.settle-in-loop-round.new.colours c.in-Some-2.answer c.requires.converse
    (rw c.in-Some-2.is at c.in_ok-answer-2.ensures.some)
