use Rattle.std.proofs.Common.{◌≡◌, ℕ, ◌<◌, ◌≤◌, ◌↔◌, slice_index}
use Rattle.wc_graph.proofs.Ready.{In}
use Rattle.wc_graph.proofs.topology.first_ready.Given as goal

abbrev pub invariant-loop-node : goal.invariant-loop-node
invariant-loop-node l = (node : ℕ) → In l.ready node ↔ ((1 ≤ node) × (node < l.node) × (slice_index l.waiting node ≡ 0))
