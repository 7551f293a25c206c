use Rattle.std.proofs.lemmas.Result.{err_from_is_err_and}
use Rattle.wc_graph.proofs.Correct.{out_of_memory}
use Rattle.wc_graph.proofs.graph.Graph.add_link.Goals as goal

pub returns-in_err-check_link-clause-refusals : goal.returns-in_err-check_link-clause-refusals
returns-in_err-check_link-clause-refusals c =
    let p = err_from_is_err_and c.from_residual.result c.from_residual.ensures.1 in
    rw (p.1, p.2) c.in_err-check_link.ensures.refusals

pub returns-in_err-put_link-clause-refusals : goal.returns-in_err-put_link-clause-refusals
returns-in_err-put_link-clause-refusals c =
    let p = err_from_is_err_and c.from_residual-in_err-put_link.result c.from_residual-in_err-put_link.ensures.1 in
    rw (p.1, p.2) (out_of_memory _ _ c.in_ok-check_link.ensures.refusals)

pub returns-clause-refusals : goal.returns-clause-refusals
returns-clause-refusals c = c.in_ok-check_link.ensures.refusals
