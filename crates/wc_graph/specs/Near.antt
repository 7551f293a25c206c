-- The nodes one step from a node.
use Rattle.std.specs.Prelude.{◌≡◌, ℕ, ◌+◌, ◌≤◌, ◌&&◌, ◌==◌, ◌↔◌, List, [], length, map, filter, All, Contains, slice_index_or}
use Rattle.wc_graph.specs.declared.link.Link.{Link}
use Rattle.wc_graph.specs.declared.choice.Choice.{Choice}
use Rattle.wc_graph.specs.declared.near.Way.{Way}
use Rattle.wc_graph.specs.declared.near.Way.TheVariants.{Forward, Backward}
use Rattle.wc_graph.specs.Choice.{chosen}

-- the node from which a link is followed, forward or backward
abbrev pub tail : Way → Link → ℕ
tail Forward l = l.source
tail Backward l = l.target

-- the node to which a link is followed, forward or backward
abbrev pub head : Way → Link → ℕ
head Forward l = l.target
head Backward l = l.source

-- the heads of the chosen links with this tail, in the order of the links
abbrev pub near_of : Choice → Way → List Link → ℕ → List ℕ
near_of choice way links node = map (head way) (filter (λ l. chosen choice l.link && (tail way l == node)) links)

-- no link has an end above a number
abbrev pub EndsAreWithin : ℕ → List Link → Type 0
EndsAreWithin greatest links = All (λ l. (l.source ≤ greatest) × (l.target ≤ greatest)) links

-- In a table of lists, the second is in the list of the first.
abbrev pub Near : List (List ℕ) → ℕ → ℕ → Type 0
Near table from to = Contains (slice_index_or table from []) to

-- steps the given way
abbrev pub Along : Way → (ℕ → ℕ → Type 0) → ℕ → ℕ → Type 0
Along Forward step from to = step from to
Along Backward step from to = step to from

-- A table of lists for the nodes up to the greatest number: the list of a node holds the nodes one step from it.
pub record IsTable (step : ℕ → ℕ → Type 0) (greatest : ℕ) (table : List (List ℕ)) : Type 0 where
  pub size : length table ≡ greatest + 1
  pub inside : (from to : ℕ) → Near table from to → to ≤ greatest
  pub steps : (from to : ℕ) → Near table from to ↔ step from to
