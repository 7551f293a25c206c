use Rattle.std.proofs.Common.{ap, ◌∙◌}
use Rattle.wc_matches.proofs.Ordering.{numbers_more, numbers_past, numbers_all}
use Rattle.wc_matches.proofs.numbers.numbers.Goals as goal
use Rattle.wc_matches.proofs.numbers.numbers.Goals.{then-set-place+in_ok-push, else-set-place}

pub loop-place-preserved : goal.loop-place-preserved
loop-place-preserved c =
    elim c.if-set-place.branch [
      | then-set-place+in_ok-push w ↦
          numbers_more c.args.set.now c.loop-place.place c.loop-place.ids.items _ w.if-set-place.true (ap (λ v. v.items) w.ids-is ∙ w.in_ok-push.ensures.items) c.loop-place.invariant
      | else-set-place w ↦ numbers_past c.args.set.now c.loop-place.place c.loop-place.ids.items _ w.if-set-place.false (ap (λ v. v.items) w.ids-is) c.loop-place.invariant
    ]

pub returns : goal.returns
returns c = numbers_all c.args.set.now c.loop-place.place c.loop-place.ids.items c.loop-place-test.false c.loop-place.invariant
