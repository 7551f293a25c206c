use Rattle.std.proofs.Common.{◌≡◌}
use Rattle.wc_graph.proofs.cycle.lies_on_cycle.Given as goal

abbrev pub invariant-loop-round : goal.invariant-loop-round
invariant-loop-round l = l.colours ≡ l.fn.colours
