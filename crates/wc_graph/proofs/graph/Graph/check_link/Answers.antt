use Rattle.wc_graph.proofs.Correct.{exact_from_each}
use Rattle.wc_graph.proofs.graph.Graph.check_link.Goals as goal

pub returns-clause-refusals : goal.returns-clause-refusals
returns-clause-refusals c =
    let a = c.allow.ensures in
    exact_from_each c.allow.result _ a.no_node a.wrong_ends a.triple a.label a.creator a.caller a.full
