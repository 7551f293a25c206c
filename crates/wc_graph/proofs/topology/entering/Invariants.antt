use Rattle.std.proofs.Common.{◌≡◌, ℕ, ◌+◌, [], length, slice_index, take}
use Rattle.wc_graph.specs.Order.{waits}
use Rattle.wc_graph.proofs.topology.entering.Given as goal

abbrev pub invariant-loop-link : goal.invariant-loop-link
invariant-loop-link l = record {
  size : length l.waiting.items ≡ l.greatest + 1;
  counts : (node : ℕ) → slice_index l.waiting.items node ≡ waits [] (take l.link-index l.links) node;
}
