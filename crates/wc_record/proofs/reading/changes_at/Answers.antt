use Rattle.std.proofs.lemmas.Result.{err_from_is_err_and}
use Rattle.wc_record.proofs.Tolds.{rest_next, rest_err}
use Rattle.wc_record.proofs.reading.changes_at.Goals as goal

pub returns-in_err-change-clause-answer : goal.returns-in_err-change-clause-answer
returns-in_err-change-clause-answer c =
    let p = err_from_is_err_and c.from_residual-in_err-change.result c.from_residual-in_err-change.ensures.1 in
    rw (p.1, p.2) (rest_err _ _ _ _ _ _ _ c.loop-item-test.true c.loop-item.invariant.rest c.in_ok-count.ensures.answer c.in_err-change.ensures.answer)

pub loop-item-preserved : goal.loop-item-preserved
loop-item-preserved c =
    let next = rest_next _ _ _ _ _ _ _ _ c.loop-item-test.true c.loop-item.invariant.rest c.in_ok-change.ensures.answer in
    record { within = c.in_ok-change.ensures.within; rest = rw c.in_ok-push.ensures.ok next }
