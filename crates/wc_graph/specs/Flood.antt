-- A search from a node, that colours what it finds.
use Rattle.std.specs.Prelude.{◌≡◌, ◌≢◌, ℕ, ◌<◌, ◌≤◌, ◌==◌, ◌⊎◌, List, [], length, count_by, slice_index, slice_index_or}
use Rattle.wc_graph.specs.declared.flood.Found.{Found}
use Rattle.wc_graph.specs.Near.{Near}

-- the entry of a trail at a place
abbrev pub node_at : List Found → ℕ → ℕ
node_at trail place = (slice_index_or trail place (record { node = 0; by = 0 })).node

-- the place from which a node at a place of the trail was found
abbrev pub by_at : List Found → ℕ → ℕ
by_at trail place = (slice_index_or trail place (record { node = 0; by = 0 })).by

-- how many nodes have this colour
abbrev pub count_of : ℕ → List ℕ → ℕ
count_of colour colours = count_by (λ c. c == colour) colours

-- The trail holds the start and then each node found, each behind the one that it was found from. A node is found if
-- it had the colour of the start; then it has the fresh one. The neighbours of the first `done` entries are found.
pub record Floods (table : List (List ℕ)) (start fresh : ℕ) (before after : List ℕ) (trail : List Found) (done : ℕ) : Type 0 where
  pub size : length after ≡ length before
  pub begins : (0 < length trail) × (node_at trail 0 ≡ start)
  pub linked : (k : ℕ) → 0 < k → k < length trail
      → (by_at trail k < k) × Near table (node_at trail (by_at trail k)) (node_at trail k)
  pub coloured : (k : ℕ) → 0 < k → k < length trail
      → (slice_index before (node_at trail k) ≡ slice_index before start) × (slice_index after (node_at trail k) ≡ fresh)
  pub found : (node : ℕ) → slice_index after node ≡ fresh → (k : ℕ) × (0 < k) × (k < length trail) × (node_at trail k ≡ node)
  pub others : (node : ℕ) → slice_index after node ≢ fresh → slice_index after node ≡ slice_index before node
  pub spread : (k : ℕ) → k < done → (node : ℕ) → Near table (node_at trail k) node
      → slice_index before node ≡ slice_index before start → slice_index after node ≡ fresh

-- Each colour is another than the fresh one, and each number in the table has a colour.
pub record CanFlood (table : List (List ℕ)) (start fresh : ℕ) (colours : List ℕ) : Type 0 where
  pub start_in : start < length colours
  pub sizes : length table ≡ length colours
  pub inside : (from to : ℕ) → Near table from to → to < length colours
  pub is_fresh : (node : ℕ) → slice_index colours node ≢ fresh

-- The first `by` entries have spread, and the entry at `by` is the next, with its neighbours in a list.
pub record IsAtWork (table : List (List ℕ)) (start fresh : ℕ) (before now : List ℕ) (trail : List Found) (by : ℕ) (next : List ℕ) (old : ℕ) : Type 0 where
  pub can : CanFlood table start fresh before
  pub floods : Floods table start fresh before now trail by
  pub within : by < length trail
  pub next_is : next ≡ slice_index_or table (node_at trail by) []
  pub old_is : old ≡ slice_index before start

-- A node has its colour of before, or an entry of the trail from this place on.
abbrev pub IsEither : List ℕ → List ℕ → List Found → ℕ → ℕ → Type 0
IsEither now before trail from node =
    (slice_index now node ≡ slice_index before node) ⊎ ((k : ℕ) × (from ≤ k) × (k < length trail) × (node_at trail k ≡ node))
