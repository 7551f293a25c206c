use Rattle.std.proofs.lemmas.Result.{IfOk-weaker}
use Rattle.wc_graph.specs.Walks.{Leads}
use Rattle.wc_graph.proofs.JoinedWalks.{reaches_back}
use Rattle.wc_graph.proofs.Exactly.{exactly_as}
use Rattle.wc_graph.proofs.reach.ancestors.Goals as goal

-- a walk back from the node is a walk to it
pub returns-clause-ok : goal.returns-clause-ok
returns-clause-ok c =
    let step = Leads c.args.types.now c.args.graph.now.links in
    IfOk-weaker c.reached.result _ _
    (λ ids a. exactly_as _ _ ids
    (λ id. (λ r. reaches_back (λ x y. step y x) step (λ x y s. s) c.args.from id r, λ r. reaches_back step (λ x y. step y x) (λ x y s. s) id c.args.from r)) a)
    c.reached.ensures.ok
