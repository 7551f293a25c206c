use Rattle.std.proofs.Common.{◌≡◌, ℕ, [], ◌+◌, length, slice_index_or, take}
use Rattle.wc_graph.specs.Near.{near_of}
use Rattle.wc_graph.proofs.near.near.Given as goal

abbrev pub invariant-loop-link : goal.invariant-loop-link
invariant-loop-link l = record {
  size : length l.table.items ≡ l.greatest + 1;
  lists : (node : ℕ) → slice_index_or l.table.items node [] ≡ near_of l.choice l.way (take l.link-index l.links) node;
}
