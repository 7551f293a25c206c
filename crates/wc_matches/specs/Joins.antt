-- How two nodes are joined.
use Rattle.std.specs.Prelude.{◌≡◌, ℕ, Bool, true, false, List, slice_index_or}
use Rattle.wc_graph.specs.Walks.{Leads, Reaches}
use Rattle.wc_graph.specs.declared.link.Link.{Link}
use Rattle.wc_graph.specs.declared.link.LinkType.{LinkType}
use Rattle.wc_query.specs.declared.query.LinkTest.{LinkTest}

-- A link of one of these types leads from the one node to the other, or where it is looked for the other way from the other to the one.
abbrev pub Steps : Bool → List LinkType → List Link → ℕ → ℕ → Type 0
Steps true types links from to = Leads types links from to
Steps false types links from to = Leads types links to from

-- Two nodes are joined by a link of one of these types in this direction, or by a walk along one or more of them
abbrev pub IsJoinedBy : Bool → Bool → List LinkType → List Link → ℕ → ℕ → Type 0
IsJoinedBy true forward types links from to = Reaches (Steps forward types links) from to
IsJoinedBy false forward types links from to = Steps forward types links from to

-- The same steps and joins, but to no node that is barred.
abbrev pub OpenSteps : Bool → List LinkType → List Bool → List Link → ℕ → ℕ → Type 0
OpenSteps forward types barred links from to = Steps forward types links from to × (slice_index_or barred to false ≡ false)

-- the same by steps that come to no barred node
abbrev pub IsJoinedPast : Bool → Bool → List LinkType → List Bool → List Link → ℕ → ℕ → Type 0
IsJoinedPast true forward types barred links from to = Reaches (OpenSteps forward types barred links) from to
IsJoinedPast false forward types barred links from to = OpenSteps forward types barred links from to

-- Two nodes are joined: by a link of one of the types in the direction, or by a walk of one or more.
abbrev pub IsJoined : List Link → LinkTest → ℕ → ℕ → Type 0
IsJoined links t from to = IsJoinedBy t.walk t.forward t.types links from to
