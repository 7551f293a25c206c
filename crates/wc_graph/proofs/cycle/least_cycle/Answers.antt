use Rattle.std.proofs.Common.{ℕ, ◌<◌, sym, subst}
use Rattle.wc_graph.proofs.Settling.{least_cycle_from, reaches_conversely}
use Rattle.wc_graph.proofs.cycle.least_cycle.Goals as goal

pub closed_walk-requires-clause-inside : goal.closed_walk-requires-clause-inside
closed_walk-requires-clause-inside c = λ from to n.
    subst (λ (m : ℕ). to < m) (sym c.requires.converse.sizes) (c.requires.converse.inside_back from to n)

pub closed_walk-requires-clause-on_cycle : goal.closed_walk-requires-clause-on_cycle
closed_walk-requires-clause-on_cycle c =
    let least = rw c.in-Some.is at c.in_ok-node.ensures in
    reaches_conversely c.args.forward.now c.args.backward.now c.in-Some.node c.requires.converse least.1

pub returns-in_ok-closed_walk-in-Some : goal.returns-in_ok-closed_walk-in-Some
returns-in_ok-closed_walk-in-Some c =
    let least = rw c.in-Some.is at c.in_ok-node.ensures in
    least_cycle_from c.args.forward.now c.args.backward.now c.in-Some.node _ c.requires.converse c.in_ok-closed_walk-in-Some.ensures least.2
