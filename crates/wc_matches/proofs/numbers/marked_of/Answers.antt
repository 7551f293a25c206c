use Rattle.std.proofs.Common.{sym, ap, ◌∙◌}
use Rattle.wc_matches.proofs.Ordering.{kept_more, kept_past, kept_all}
use Rattle.wc_matches.proofs.numbers.marked_of.Goals as goal
use Rattle.wc_matches.proofs.numbers.marked_of.Goals.{then-is_marked+in_ok-push, else-is_marked}

pub loop-node-preserved : goal.loop-node-preserved
loop-node-preserved c =
    let l = c.loop-node in
    elim c.if-is_marked.branch [
      | then-is_marked+in_ok-push w ↦
          kept_more c.args.set.now c.args.found.now l.kept.items _ l.node-index c.loop-node-test.true (sym c.is_marked.ensures ∙ w.if-is_marked.true)
          (ap (λ v. v.items) w.kept-is ∙ w.in_ok-push.ensures.items) l.invariant
      | else-is_marked w ↦
          kept_past c.args.set.now c.args.found.now l.kept.items _ l.node-index c.loop-node-test.true (sym c.is_marked.ensures ∙ w.if-is_marked.false)
          (ap (λ v. v.items) w.kept-is) l.invariant
    ]

pub returns : goal.returns
returns c = kept_all c.args.set.now c.args.found.now c.loop-node.kept.items c.loop-node.node-index c.loop-node-test.false c.loop-node.invariant
