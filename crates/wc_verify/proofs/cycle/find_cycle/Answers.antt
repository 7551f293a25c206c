use Rattle.std.proofs.Common.{sym, subst}
use Rattle.std.specs.Prelude.{Some}
use Rattle.wc_graph.specs.Walks.{IsAcyclic}
use Rattle.wc_graph.specs.Order.{IsCause}
use Rattle.wc_graph.specs.declared.walk_error.WalkError.TheVariants.{Cycle}
use Rattle.wc_verify.specs.Faults.{IsLeastOnCycle}
use Rattle.wc_verify.proofs.Cycles.{least_first}
use Rattle.wc_verify.proofs.cycle.find_cycle.Goals as goal

pub returns-in-Ok : goal.returns-in-Ok
returns-in-Ok c = subst IsAcyclic c.graph.ensures.links.0 c.in-Ok.ensures.acyclic

pub returns-in-Err-Cycle : goal.returns-in-Err-Cycle
returns-in-Err-Cycle c =
    let links = c.args.world.now.world.links in
    let cause : IsCause links (Cycle c.in-Err-Cycle.nodes) = subst (λ ls. IsCause ls (Cycle c.in-Err-Cycle.nodes)) c.graph.ensures.links.0
    (subst (IsCause c.graph.result.now.links) c.in-Err-Cycle.field-0-is c.in-Err-Cycle.ensures.err) in
    subst (λ n. IsLeastOnCycle links (Some n)) (sym c.first_of.ensures) (least_first links c.in-Err-Cycle.nodes cause)
