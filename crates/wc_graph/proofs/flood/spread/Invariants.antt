use Rattle.std.proofs.Common.{◌≡◌, ℕ, ◌+◌, ◌≤◌, List, length}
use Rattle.wc_graph.specs.Flood.{IsAtWork, count_of}
use Rattle.wc_graph.proofs.Flooding.{Spreading}
use Rattle.wc_graph.proofs.flood.spread.Given as goal

abbrev pub invariant-loop-node : goal.invariant-loop-node
invariant-loop-node l = record {
  size : length l.colours ≡ length l.fn.colours;
  spreading : (table : List (List ℕ)) (start : ℕ) (before : List ℕ)
      → IsAtWork table start l.fresh before l.fn.colours l.fn.trail.items l.by l.next l.old
      → Spreading table start l.fresh before l.colours l.trail.items l.fn.trail.items l.by l.next l.node-index;
  grows : length l.fn.trail.items ≤ length l.trail.items;
  count : count_of l.old l.colours + length l.trail.items
      ≡ count_of l.old l.fn.colours + length l.fn.trail.items;
}
