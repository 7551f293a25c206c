use Rattle.std.proofs.Common.{◌≡◌}
use Rattle.wc_world.proofs.effects.reserve_labels.Given as goal

abbrev pub invariant-loop-change : goal.invariant-loop-change
invariant-loop-change l = l.graph ≡ l.fn.graph
