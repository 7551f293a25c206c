use Rattle.std.proofs.Common.{ℕ, ◌<◌, ◌^◌, List, length, sym, subst}
use Rattle.wc_graph.specs.Walks.{Leads, data_types}
use Rattle.wc_graph.specs.Near.{Near, IsTable}
use Rattle.wc_graph.specs.Cycle.{AreConverse}
use Rattle.wc_graph.proofs.JoinedWalks.{reaches_as}
use Rattle.wc_graph.proofs.Settling.{converse_tables, least_cycle_as}
use Rattle.wc_graph.proofs.topology.order.Goals as goal

pub least_cycle-requires-clause-few : goal.least_cycle-requires-clause-few
least_cycle-requires-clause-few c =
    subst (λ (t : List (List ℕ)). length t < 2 ^ 32) (sym c.deref-2.ensures.value) c.in_ok-forward.ensures.small

pub least_cycle-requires-clause-converse : goal.least_cycle-requires-clause-converse
least_cycle-requires-clause-converse c =
    let g = c.args.graph.now in
    let step = Leads data_types g.links in
    let f = c.in_ok-forward.ensures.table data_types c.data.ensures.types in
    let b = c.in_ok-backward.ensures.table data_types c.data-2.ensures.types in
    let h = converse_tables step (length g.nodes) c.in_ok-forward.forward.items c.in_ok-backward.backward.items f b in
    subst (λ (t : List (List ℕ)). AreConverse t c.deref-3.result.now) (sym c.deref-2.ensures.value)
    (subst (AreConverse c.in_ok-forward.forward.items) (sym c.deref-3.ensures.value) h)

pub unreachable-requires : goal.unreachable-requires
unreachable-requires c =
    let g = c.args.graph.now in
    let step = Leads data_types g.links in
    let none = rw c.in-None.is at c.in_ok-ids-2.ensures in
    let cyclic = rw c.in_default.is at c.in_ok-ids.ensures in
    let f = subst (IsTable step (length g.nodes)) (sym c.deref-2.ensures.value) (c.in_ok-forward.ensures.table data_types c.data.ensures.types) in
    cyclic (λ node r. none node (reaches_as step (Near c.deref-2.result.now) (λ x y. (f.steps x y).1) node node r))

pub returns-clause-err : goal.returns-clause-err
returns-clause-err c =
    let g = c.args.graph.now in
    let step = Leads data_types g.links in
    let f = subst (IsTable step (length g.nodes)) (sym c.deref-2.ensures.value) (c.in_ok-forward.ensures.table data_types c.data.ensures.types) in
    least_cycle_as (Near c.deref-2.result.now) step f.steps c.in-Some-2.ids (rw c.in-Some-2.is at c.in_ok-ids-2.ensures)
