use Rattle.std.proofs.Common.{refl, sym, subst}
use Rattle.std.specs.Prelude.{IsSome}
use Rattle.wc_core.proofs.Asking.{asks_there}
use Rattle.wc_core.proofs.TurnsByKind.{found_itself}
use Rattle.wc_core.proofs.needs.need.Goals as goal

pub asks_with-requires-clause-there : goal.asks_with-requires-clause-there
asks_with-requires-clause-there c =
    subst IsSome (sym (found_itself c.args.world.now.world c.args.pid c.in-Some.process.now (sym c.in-Some.ensures))) refl

pub asks_with-requires-clause-asked : goal.asks_with-requires-clause-asked
asks_with-requires-clause-asked c =
    let w = c.args.world.now.world in
    asks_there w c.args.pid c.in-Some.process.now c.in-Some-task_at.task (c.reached_worlds_are_consistent.ensures w c.graph-graph.ensures.reached) (sym c.in-Some.ensures)
    (sym c.in-Some-task_at.ensures)
