-- Walks along links.
use Rattle.std.specs.Prelude.{◌≡◌, ℕ, List, [], ◌∷◌, Any, Contains}
use Rattle.wc_graph.specs.declared.link.LinkType.{LinkType}
use Rattle.wc_graph.specs.declared.link.LinkType.TheVariants.{InputCalc, Create}
use Rattle.wc_graph.specs.declared.link.Link.{Link}

-- A link of one of these types leads from one node to the other.
abbrev pub Leads : List LinkType → List Link → ℕ → ℕ → Type 0
Leads types links from to = Any (λ l. Contains types l.link × (l.source ≡ from) × (l.target ≡ to)) links

-- A walk of one or more steps, from a node through those of the list to a node.
abbrev pub Walks : (ℕ → ℕ → Type 0) → ℕ → List ℕ → ℕ → Type 0
Walks step from [] to = step from to
Walks step from (next ∷ rest) to = step from next × Walks step next rest to

-- Some walk of one or more steps leads from one node to the other.
abbrev pub Reaches : (ℕ → ℕ → Type 0) → ℕ → ℕ → Type 0
Reaches step from to = (through : List ℕ) × Walks step from through to

-- The nodes of a walk that ends where it begins: each has a step to the next, and the last to the first.
abbrev pub IsClosedWalk : (ℕ → ℕ → Type 0) → List ℕ → Type 0
IsClosedWalk step [] = ⊥
IsClosedWalk step (first ∷ rest) = Walks step first rest first

-- the types of data provenance
abbrev pub data_types : List LinkType
data_types = InputCalc ∷ Create ∷ []

-- No walk along data provenance leads from a node back to it.
abbrev pub IsAcyclic : List Link → Type 0
IsAcyclic links = (node : ℕ) → ¬ Reaches (Leads data_types links) node node
