-- What a search along links finds.
use Rattle.std.specs.Prelude.{◌≡◌, ◌⊎◌, ◌==◌, ◌+◌, ◌<◌, ◌≤◌, ℕ, Bool, true, false, not, List, length, count_by, slice_get, Some, slice_index, slice_index_or, Contains}
use Rattle.std.specs.List.{list_any}
use Rattle.wc_graph.specs.Walks.{Reaches}
use Rattle.wc_graph.specs.declared.link.Link.{Link}
use Rattle.wc_graph.specs.declared.link.LinkType.{LinkType}

-- whether a number stands in a list
abbrev pub has : List ℕ → ℕ → Bool
has found n = list_any (λ m. m == n) found

-- exactly the numbers of a list are marked
abbrev pub AreMarked : List Bool → List ℕ → Type 0
AreMarked marks found = (n : ℕ) → slice_index_or marks n false ≡ has found n

-- nothing is marked
abbrev pub AreBlank : List Bool → Type 0
AreBlank marks = (n : ℕ) → slice_index_or marks n false ≡ false

-- Behind the numbers found before stand those of which P holds, each number once, and exactly these are marked.
pub record Finds (P : ℕ → Type 0) (marks after : List Bool) (before found : List ℕ) : Type 0 where
  pub size : length after ≡ length marks
  pub marked : AreMarked after found
  pub count : count_by not after + length found ≡ count_by not marks + length before
  pub kept : (m : ℕ) → has before m ≡ true → has found m ≡ true
  pub all : (m : ℕ) → P m → has found m ≡ true
  pub only : (m : ℕ) → has found m ≡ true → (has before m ≡ true) ⊎ P m
  pub stay : (k : ℕ) → k < length before → slice_index found k ≡ slice_index before k
  pub longer : length before ≤ length found

-- ---- links

-- the node that a link leads from in a direction, and the one that it leads to
abbrev pub start_of : Bool → Link → ℕ
start_of true l = l.source
start_of false l = l.target

-- the end of a link to which a step leads: its target forward, its source backward
abbrev pub end_of : Bool → Link → ℕ
end_of true l = l.target
end_of false l = l.source

-- the link is of one of these types and leads from the node, to one that isn't barred
abbrev pub LeadsFrom : Bool → List LinkType → List Bool → ℕ → Link → Type 0
LeadsFrom forward types barred node l = Contains types l.link × (start_of forward l ≡ node) × (slice_index_or barred (end_of forward l) false ≡ false)

-- a link at this place or behind it leads from the one node to the other
abbrev pub LeadsBehind : Bool → List LinkType → List Bool → List Link → ℕ → ℕ → ℕ → Type 0
LeadsBehind forward types barred links node at m =
    (k : ℕ) × (l : Link) × (slice_get links k ≡ Some l) × (at ≤ k) × LeadsFrom forward types barred node l × (end_of forward l ≡ m)

-- a step leads from one of these nodes
abbrev pub FromSome : (ℕ → ℕ → Type 0) → List ℕ → ℕ → Type 0
FromSome step froms m = (n : ℕ) × (has froms n ≡ true) × step n m

-- Those found before are found, and whatever a walk leads to from them; the first `done` of all have had their steps followed.
pub record IsClosed (step : ℕ → ℕ → Type 0) (before found : List ℕ) (done : ℕ) : Type 0 where
  pub kept : (m : ℕ) → has before m ≡ true → has found m ≡ true
  pub only : (m : ℕ) → has found m ≡ true → (has before m ≡ true) ⊎ FromSome (Reaches step) before m
  pub spread : (k : ℕ) → k < done → (m : ℕ) → step (slice_index found k) m → has found m ≡ true
