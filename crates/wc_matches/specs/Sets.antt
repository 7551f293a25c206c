-- Sets of nodes that may stand at a place of a row.
use Rattle.std.specs.Prelude.{◌≡◌, ◌⊎◌, ◌<◌, ◌+◌, ◌↔◌, ℕ, Bool, true, false, List, [], ◌∷◌, ◌++◌, length, slice_index_or}
use Rattle.wc_world.specs.World.{World}
use Rattle.wc_graph.specs.declared.link.Link.{Link}
use Rattle.wc_query.specs.declared.query.LinkTest.{LinkTest}
use Rattle.wc_query.specs.declared.query.NodeTest.{NodeTest}
use Rattle.wc_matches.specs.Found.{has}
use Rattle.wc_matches.specs.Joins.{IsJoined}
use Rattle.wc_matches.specs.Levels.{GoesOn, last_of}
use Rattle.wc_matches.specs.Meets.{meets}

-- a join leads from a node to one of these
abbrev pub LeadsToSome : List Link → LinkTest → List ℕ → ℕ → Type 0
LeadsToSome links join ends n = (m : ℕ) × IsJoined links join n m × (has ends m ≡ true)

-- a join leads from a node to one that is marked
abbrev pub LeadsToMarked : List Link → LinkTest → List Bool → ℕ → Type 0
LeadsToMarked links join set n = (m : ℕ) × IsJoined links join n m × (slice_index_or set m false ≡ true)

-- none is barred of the marked nodes, and of those from which a join leads to a marked one
abbrev pub AreOpen : List Link → LinkTest → List Bool → List Bool → Type 0
AreOpen links join set barred = (n : ℕ) → (slice_index_or set n false ≡ true) ⊎ LeadsToMarked links join set n → slice_index_or barred n false ≡ false

-- A row goes on to a marked node: a join leads from its last node to it.
abbrev pub LeadsInto : List Link → LinkTest → List Bool → List ℕ → ℕ → Type 0
LeadsInto links join set [] m = ⊥
LeadsInto links join set (n ∷ ns) m = IsJoined links join (last_of n ns) m × (slice_index_or set m false ≡ true)

-- There is a mark for each node, and one for the number 0. Of the nodes exactly those are marked behind which the joins can follow.
pub record AreWithin (w : World) (joins : List (LinkTest × NodeTest)) (marks : List Bool) : Type 0 where
  pub size : length marks ≡ length w.nodes + 1
  pub each : (n : ℕ) → n < length w.nodes + 1 → (slice_index_or marks n false ≡ true) ↔ GoesOn w joins n

-- exactly those nodes are marked that meet the test and behind which the joins can follow
abbrev pub IsSet : World → NodeTest → List (LinkTest × NodeTest) → List Bool → Type 0
IsSet w test joins set = (m : ℕ) → (slice_index_or set m false ≡ true) ↔ ((meets w test m ≡ true) × GoesOn w joins m)

-- For each join there is the set of the nodes that may stand behind it, that of the first join at the end.
abbrev pub AreSets : World → List (LinkTest × NodeTest) → List (List Bool) → Type 0
AreSets w [] sets = sets ≡ []
AreSets w (join ∷ joins) sets = (rest : List (List Bool)) × (set : List Bool) × (sets ≡ rest ++ set ∷ []) × IsSet w join.1 joins set × AreSets w joins rest
