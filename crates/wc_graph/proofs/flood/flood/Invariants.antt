use Rattle.std.proofs.Common.{◌≡◌, ◌+◌, ◌-◌, length, None}
use Rattle.wc_graph.specs.Flood.{Floods, count_of}
use Rattle.wc_graph.proofs.flood.flood.Given as goal

abbrev pub invariant-loop-at : goal.invariant-loop-at
invariant-loop-at l = record {
  size : length l.colours ≡ length l.fn.colours;
  floods : Floods l.table l.start l.fresh l.fn.colours l.colours l.trail.items l.at;
  limit : l.fn.limit ≡ None → l.left ≡ None;
}

abbrev pub decreases-loop-at : goal.decreases-loop-at
decreases-loop-at l = count_of l.old l.colours + (length l.trail.items - l.at)
