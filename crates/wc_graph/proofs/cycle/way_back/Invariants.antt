use Rattle.std.proofs.Common.{◌≡◌, ℕ, ◌<◌, ◌⊎◌, List, length}
use Rattle.wc_graph.specs.Near.{Near}
use Rattle.wc_graph.specs.Flood.{node_at}
use Rattle.wc_graph.specs.Cycle.{LinksBack}
use Rattle.wc_graph.proofs.Settling.{LeadsOn}
use Rattle.wc_graph.proofs.cycle.way_back.Given as goal

abbrev pub invariant-loop-at : goal.invariant-loop-at
invariant-loop-at l = record {
  within : l.at < length l.trail;
  some : (l.at ≡ l.from) ⊎ (0 < length l.ids);
  leads : (backward : List (List ℕ)) → LinksBack backward l.trail
      → LeadsOn (λ from to. Near backward to from) (node_at l.trail l.from) (node_at l.trail l.at) l.ids;
}

abbrev pub decreases-loop-at : goal.decreases-loop-at
decreases-loop-at l = l.at
