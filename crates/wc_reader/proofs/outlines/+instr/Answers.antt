use Rattle.std.proofs.Common.{subst, sym}
use Rattle.wc_grammar.specs.Reading.{Gives, expr_at}
use Rattle.wc_reader.specs.Reading.{block_at, instr_at}
use Rattle.wc_reader.proofs.Bounds.{if_read}
use Rattle.wc_reader.proofs.outlines.+instr.Goals as goal

pub if_instr-returns : goal.if_instr-returns
if_instr-returns t c =
    let n = c.args.bound in
    subst (λ z. Gives (λ x. (x.0, x.1.now)) c.end_if.result z)
    (sym (if_read n (expr_at n) (block_at n (instr_at n)) c.args.tokens.now c.in_ok-at.at c.in_ok-at.first c.in_ok-at.rest.now c.in_ok-arms.arms c.in_ok-arms-2.arms c.in_ok-arms-2.rest.now
    c.in_ok-at.ensures c.in_ok-arms.ensures.value c.in_ok-arms-2.ensures)) c.end_if.ensures
