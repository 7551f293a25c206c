use Rattle.std.proofs.Common.{◌≡◌, ℕ, List, length, slice_index, All}
use Rattle.wc_graph.specs.Flood.{IsEither}
use Rattle.wc_graph.proofs.flood.restore.Given as goal

abbrev pub invariant-loop-found : goal.invariant-loop-found
invariant-loop-found l = (before : List ℕ) → length before ≡ length l.fn.colours
    → All (λ found. slice_index before found.node ≡ l.old) l.trail
    → ((node : ℕ) → IsEither l.fn.colours before l.trail 0 node)
    → (node : ℕ) → IsEither l.colours before l.trail l.found-index node
