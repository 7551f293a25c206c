use Rattle.wc_record.proofs.Contexts.{one_more}
use Rattle.wc_record.proofs.put.put_context.Goals as goal

pub loop-at-preserved : goal.loop-at-preserved
loop-at-preserved c =
    let i = c.loop-at.invariant in
    let m = one_more _ _ _ _ _ _ i.within c.loop-at-test.true i.out i.fits c.in_ok-put_pair.ensures.bytes c.in_ok-put_pair.ensures.fits in
    record { within = i.within; out = m.0; fits = m.1 }
