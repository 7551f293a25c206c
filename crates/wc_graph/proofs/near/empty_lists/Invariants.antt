use Rattle.std.proofs.Common.{◌≡◌, ℕ, [], length, slice_index_or}
use Rattle.wc_graph.proofs.near.empty_lists.Given as goal

abbrev pub invariant-loop-node : goal.invariant-loop-node
invariant-loop-node l = record {
  size : length l.table.items ≡ l._node;
  lists : (node : ℕ) → slice_index_or l.table.items node [] ≡ [];
}
