use Rattle.std.proofs.Common.{◌≢◌, ℕ, ◌<◌}
use Rattle.wc_graph.specs.Flood.{node_at}
use Rattle.wc_graph.proofs.cycle.closed_walk.Given as goal

abbrev pub invariant-loop-at : goal.invariant-loop-at
invariant-loop-at l = (k : ℕ) → 0 < k → k < l.at → node_at l.trail.items k ≢ l.node
