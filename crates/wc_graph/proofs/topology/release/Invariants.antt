use Rattle.std.proofs.Common.{◌≡◌, ℕ, ◌+◌, ◌<◌, ◌↔◌, ◌⊎◌, length, slice_index, take}
use Rattle.wc_graph.specs.Order.{times}
use Rattle.wc_graph.proofs.Ready.{In}
use Rattle.wc_graph.proofs.topology.release.Given as goal

abbrev pub invariant-loop-target : goal.invariant-loop-target
invariant-loop-target l = record {
  size : length l.waiting ≡ length l.fn.waiting;
  counts : (node : ℕ) → slice_index l.waiting node + times node (take l.target-index l.targets) ≡ slice_index l.fn.waiting node;
  ready : (node : ℕ) → In l.ready node ↔ (In l.fn.ready node ⊎ ((0 < times node (take l.target-index l.targets)) × (slice_index l.waiting node ≡ 0)));
}
