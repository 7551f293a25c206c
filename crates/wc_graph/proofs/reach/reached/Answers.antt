use Rattle.std.proofs.Common.{◌≡◌, ℕ, ◌+◌, ◌<◌, ◌≤◌, List, length, get_or, ap, ◌∙◌, sym, subst, arith}
use Rattle.wc_graph.specs.Walks.{Leads}
use Rattle.wc_graph.specs.Near.{Near, Along, IsTable}
use Rattle.wc_graph.proofs.JoinedWalks.{reaches_as}
use Rattle.wc_graph.proofs.Reaching.{explored}
use Rattle.wc_graph.proofs.Exactly.{exactly_as}
use Rattle.wc_graph.proofs.reach.reached.Goals as goal

inside_of : (step : ℕ → ℕ → Type 0) (greatest : ℕ) (table : List (List ℕ)) → IsTable step greatest table
    → (from to : ℕ) → Near table from to → to < length table
inside_of step greatest table t from to n = let h : to ≤ greatest = t.inside from to n in let s : length table ≡ greatest + 1 = t.size in omega arith

pub explore-requires-clause-inside : goal.explore-requires-clause-inside
explore-requires-clause-inside c =
    let t = c.in_ok-table.ensures.table c.args.types.now c.of.ensures in
    subst (λ (ls : List (List ℕ)). (from to : ℕ) → Near ls from to → to < length ls) (sym c.deref.ensures.value)
    (inside_of _ _ c.in_ok-table.table.items t)

pub returns-clause-ok : goal.returns-clause-ok
returns-clause-ok c =
    let step = Along c.args.way (Leads c.args.types.now c.args.graph.now.links) in
    let t = subst (IsTable step (length c.args.graph.now.nodes)) (sym c.deref.ensures.value) (c.in_ok-table.ensures.table c.args.types.now c.of.ensures) in
    let table = c.deref.result.now in
    let colours = c.in_ok-colours.colours.items in
    exactly_as _ _ _ (λ id.
    let e = explored table c.args.from (length table) colours c.in_ok-colours._trail.items c.in_ok-colours.ensures id in
    let is : get_or c.deref-2.result.now id 0 ≡ get_or colours id 0 = ap (λ l. get_or l id 0) c.deref-2.ensures.value in (
      λ p. reaches_as (Near table) step (λ x y. (t.steps x y).0) c.args.from id (e.0 (sym is ∙ p)),
      λ r. is ∙ e.1 (reaches_as step (Near table) (λ x y. (t.steps x y).1) c.args.from id r),
    )) c.in_ok-numbers_with.ensures
