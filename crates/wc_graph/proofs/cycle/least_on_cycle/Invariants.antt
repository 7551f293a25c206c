use Rattle.std.proofs.Common.{◌≡◌, ℕ, ◌<◌, ◌≤◌, length, slice_index}
use Rattle.wc_graph.specs.Walks.{Reaches}
use Rattle.wc_graph.specs.Near.{Near}
use Rattle.wc_graph.specs.Cycle.{KeepsColour}
use Rattle.wc_graph.proofs.cycle.least_on_cycle.Given as goal

abbrev pub invariant-loop-node : goal.invariant-loop-node
invariant-loop-node l = record {
  size : length l.colours.items ≡ length l.forward;
  keeps : KeepsColour l.forward l.colours.items;
  below : (k : ℕ) → slice_index l.colours.items k ≤ l.node;
  none : (k : ℕ) → k < l.node → ¬ Reaches (Near l.forward) k k;
}
