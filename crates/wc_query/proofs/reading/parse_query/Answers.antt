use Rattle.std.proofs.Common.{◌-◌, length, inr, refl, arith}
use Rattle.std.proofs.lemmas.Result.{err_from_is_err_and}
use Rattle.wc_query.proofs.Successive.{shape_is, long_is, first_refused, more_refused, all_parsed}
use Rattle.wc_query.proofs.reading.parse_query.Goals as goal

pub returns-then-words-eq0-clause-refused : goal.returns-then-words-eq0-clause-refused
returns-then-words-eq0-clause-refused c = inr (shape_is c.args.words.now c.as_slice-words.result.now c.as_slice-words.ensures c.if-words-eq0.true)

pub returns-then-words-clause-refused : goal.returns-then-words-clause-refused
returns-then-words-clause-refused c = inr (long_is c.args.words.now c.as_slice-words.result.now c.as_slice-words.ensures c.if-words-eq0.false c.if-words.true)

pub returns-in_err-first-clause-refused : goal.returns-in_err-first-clause-refused
returns-in_err-first-clause-refused c =
    let p = err_from_is_err_and c.from_residual.result c.from_residual.ensures.1 in
    rw (p.1, p.2) (first_refused c.args.words.now c.as_slice-words.result.now c.node-item.result (length c.as_slice-words.result.now - 1) _
    (record { same = c.as_slice-words.ensures; odd = c.if-words-eq0.false; short = c.if-words.false; some = c.in-len1-up.len_at_least; first = c.node-item.is; count = refl })
    c.in_err-first.ensures)

pub returns-in_err-more-clause-refused : goal.returns-in_err-more-clause-refused
returns-in_err-more-clause-refused c =
    let p = err_from_is_err_and c.from_residual-in_err-more.result c.from_residual-in_err-more.ensures.1 in
    rw (p.1, p.2) (more_refused c.args.words.now c.as_slice-words.result.now c.node-item.result _ c.in_ok-first.first _
    (record { same = c.as_slice-words.ensures; odd = c.if-words-eq0.false; short = c.if-words.false; some = c.in-len1-up.len_at_least; first = c.node-item.is; count = omega arith })
    c.in_ok-first.ensures c.in_err-more.ensures.refused)

pub returns-clause-ok : goal.returns-clause-ok
returns-clause-ok c =
    all_parsed c.args.words.now c.as_slice-words.result.now c.node-item.result _ c.in_ok-first.first c.in_ok-more.more
    (record { same = c.as_slice-words.ensures; odd = c.if-words-eq0.false; short = c.if-words.false; some = c.in-len1-up.len_at_least; first = c.node-item.is; count = omega arith })
    c.in_ok-first.ensures c.in_ok-more.ensures.ok
