-- Closed walks.
use Rattle.std.specs.Prelude.{◌≡◌, ◌↔◌, ℕ, ◌+◌, ◌<◌, ◌≤◌, ◌^◌, Bool, true, false, List, [], ◌∷◌, length, slice_index}
use Rattle.wc_graph.specs.Walks.{Walks, Reaches, IsClosedWalk}
use Rattle.wc_graph.specs.Near.{Near}
use Rattle.wc_graph.specs.declared.flood.Found.{Found}
use Rattle.wc_graph.specs.Flood.{node_at, by_at}

-- the nodes of a closed walk, of which the first is the least on any
pub record IsLeastCycle (step : ℕ → ℕ → Type 0) (ids : List ℕ) : Type 0 where
  pub closed : IsClosedWalk step ids
  pub least : (node : ℕ) → Reaches step node node → slice_index ids 0 ≤ node

-- The second table lists the steps of the first the other way round.
pub record AreConverse (forward backward : List (List ℕ)) : Type 0 where
  pub sizes : length backward ≡ length forward
  pub inside : (from to : ℕ) → Near forward from to → to < length forward
  pub inside_back : (from to : ℕ) → Near backward from to → to < length forward
  pub steps : (from to : ℕ) → Near backward from to ↔ Near forward to from

-- Steps on one closed walk do not leave a colour.
abbrev pub KeepsColour : List (List ℕ) → List ℕ → Type 0
KeepsColour table colours =
    (from to : ℕ) → Near table from to → Reaches (Near table) to from → slice_index colours from ≡ slice_index colours to

-- The colours tell apart what lies on no common closed walk, and all are fit for a search from the node.
pub record CanSettle (table : List (List ℕ)) (node : ℕ) (colours : List ℕ) : Type 0 where
  pub node_in : node < length colours
  pub few : length colours < 2 ^ 32
  pub sizes : length table ≡ length colours
  pub inside : (from to : ℕ) → Near table from to → to < length colours
  pub keeps : KeepsColour table colours
  pub below : (k : ℕ) → slice_index colours k ≤ node

-- The answer says whether a closed walk leads through the node, and the colours are fit for the next node.
pub record Settles (table : List (List ℕ)) (node : ℕ) (colours : List ℕ) (answer : Bool) : Type 0 where
  pub keeps : KeepsColour table colours
  pub below : (k : ℕ) → slice_index colours k ≤ node + 1
  pub on_cycle : answer ≡ true → Reaches (Near table) node node
  pub off_cycle : answer ≡ false → ¬ Reaches (Near table) node node

-- The nodes of a walk from one node to another, without that: at least the first.
abbrev pub IsClosedFrom : (ℕ → ℕ → Type 0) → ℕ → ℕ → List ℕ → Type 0
IsClosedFrom step from to [] = ⊥
IsClosedFrom step from to (first ∷ rest) = (first ≡ from) × Walks step first rest to

-- The entries of a trail but the first are neighbours, in the table, of those that they were found from.
abbrev pub LinksBack : List (List ℕ) → List Found → Type 0
LinksBack table trail = (k : ℕ) → 0 < k → k < length trail → Near table (node_at trail (by_at trail k)) (node_at trail k)
