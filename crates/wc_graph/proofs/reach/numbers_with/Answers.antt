use Rattle.std.proofs.Common.{sym, subst, ◌∙◌}
use Rattle.wc_graph.specs.Reached.{AreExactly}
use Rattle.wc_graph.proofs.Exactly.{colour_more, colour_past}
use Rattle.wc_graph.proofs.reach.numbers_with.Goals as goal
use Rattle.wc_graph.proofs.reach.numbers_with.Goals.{then-colours-id+in_ok-push, else-colours-id}

pub loop-id-preserved : goal.loop-id-preserved
loop-id-preserved c =
    elim c.if-colours-id.branch [
      | then-colours-id+in_ok-push w ↦ colour_more c.args.colours.now c.args.colour c.loop-id.id c.loop-id.ids _ w.if-colours-id.true (w.ids-is ∙ w.in_ok-push.ensures.ok) c.loop-id.invariant
      | else-colours-id w ↦ subst (AreExactly _) (sym w.ids-is) (colour_past c.args.colours.now c.args.colour c.loop-id.id c.loop-id.ids w.if-colours-id.false c.loop-id.invariant)
    ]
