-- The order of data provenance.
use Rattle.std.specs.Prelude.{ℕ, ◌≤◌, ◌<◌, ◌==◌, ◌&&◌, not, nat_eq, List, length, take, count_by, Contains, slice_index}
use Rattle.std.specs.List.{list_any}
use Rattle.wc_graph.specs.declared.node.NodeKind.{NodeKind}
use Rattle.wc_graph.specs.declared.link.Link.{Link}
use Rattle.wc_graph.specs.Walks.{Leads, data_types}
use Rattle.wc_graph.specs.declared.walk_error.WalkError.{WalkError}
use Rattle.wc_graph.specs.declared.walk_error.WalkError.TheVariants.{NoNode, Cycle, OutOfMemory}
use Rattle.wc_graph.specs.Choice.{chosen, data_choice}
use Rattle.wc_graph.specs.Cycle.{IsLeastCycle}
use Rattle.wc_graph.specs.Reached.{IsNode}

-- a node that is not placed, where all data provenance into it comes from nodes that are
pub record MayCome (nodes : List NodeKind) (links : List Link) (placed : List ℕ) (node : ℕ) : Type 0 where
  pub is_node : IsNode nodes node
  pub is_new : ¬ Contains placed node
  pub sources : (source : ℕ) → Leads data_types links source node → Contains placed source

-- the lowest node that may come
pub record IsNext (nodes : List NodeKind) (links : List Link) (placed : List ℕ) (node : ℕ) : Type 0 where
  pub may_come : MayCome nodes links placed node
  pub lowest : (other : ℕ) → MayCome nodes links placed other → node ≤ other

-- Each node stands there, and each is the next of those that stand before it. So each stands there once.
pub record IsOrder (nodes : List NodeKind) (links : List Link) (ids : List ℕ) : Type 0 where
  pub whole : (node : ℕ) → IsNode nodes node → Contains ids node
  pub next : (place : ℕ) → place < length ids → IsNext nodes links (take place ids) (slice_index ids place)

-- why there is no order: a closed walk, or want of memory
abbrev pub IsCause : List Link → WalkError → Type 0
IsCause links (NoNode id) = ⊥
IsCause links (Cycle ids) = IsLeastCycle (Leads data_types links) ids
IsCause links OutOfMemory = Unit {0}

-- ---- what the search for the order keeps
-- how many links of data provenance enter a node from nodes that are not placed
abbrev pub waits : List ℕ → List Link → ℕ → ℕ
waits placed links node =
    count_by (λ l. chosen data_choice l.link && (l.target == node) && not (list_any (nat_eq l.source) placed)) links

-- how often a number stands in a list
abbrev pub times : ℕ → List ℕ → ℕ
times n ns = count_by (λ m. m == n) ns
