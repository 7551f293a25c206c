use Rattle.std.proofs.Common.{◌≡◌, ℕ, ◌<◌, slice_index}
use Rattle.wc_graph.proofs.topology.some_waits.Given as goal

abbrev pub invariant-loop-count : goal.invariant-loop-count
invariant-loop-count l = (node : ℕ) → node < l.count-index → slice_index l.waiting node ≡ 0
