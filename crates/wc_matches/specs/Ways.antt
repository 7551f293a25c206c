-- How the marked nodes are found that a join leads to.
use Rattle.std.specs.Prelude.{◌≡◌, ◌≤◌, ◌↔◌, ℕ, Bool, true, false, if◌then◌else◌, List, [], ◌∷◌, length, slice_index_or}
use Rattle.wc_graph.specs.declared.link.Link.{Link}
use Rattle.wc_query.specs.declared.query.LinkTest.{LinkTest}
use Rattle.wc_matches.specs.Joins.{IsJoined}
use Rattle.wc_matches.specs.Masks.{AreMasks}
use Rattle.wc_matches.specs.Numbers.{AreNumbers}
use Rattle.wc_matches.specs.Sets.{AreOpen}
use Rattle.wc_matches.specs.declared.ways.Way.{Way}
use Rattle.wc_matches.specs.declared.ways.Way.TheVariants as way

-- exactly the nodes are marked that have this to do with an end
abbrev pub IsColumn : (ℕ → ℕ → Type 0) → ℕ → List Bool → Type 0
IsColumn J end column = (n : ℕ) → (slice_index_or column n false ≡ true) ↔ J n end

-- for each end its column
abbrev pub AreColumns : (ℕ → ℕ → Type 0) → List ℕ → List (List Bool) → Type 0
AreColumns J [] [] = Unit {0}
AreColumns J [] (column ∷ columns) = ⊥
AreColumns J (end ∷ ends) [] = ⊥
AreColumns J (end ∷ ends) (column ∷ columns) = IsColumn J end column × AreColumns J ends columns

-- the ends in whose column a node is marked
abbrev pub ends_from : List ℕ → List (List Bool) → ℕ → List ℕ
ends_from [] columns n = []
ends_from (end ∷ ends) [] n = []
ends_from (end ∷ ends) (column ∷ columns) n = if slice_index_or column n false then end ∷ ends_from ends columns n else ends_from ends columns n

-- A search finds the marked nodes though some are barred; or the ends are the marked nodes, each with the nodes from which the join leads to it, or
-- with its bit in the numbers of these.
abbrev pub IsWay : List Link → LinkTest → List Bool → Way → Type 0
IsWay links join set (way.Search barred) = AreOpen links join set barred.items
IsWay links join set (way.Ends ends columns) = AreNumbers (λ m. slice_index_or set m false ≡ true) ends.items × AreColumns (IsJoined links join) ends.items columns
IsWay links join set (way.Masks ends masks) =
    AreNumbers (λ m. slice_index_or set m false ≡ true) ends.items × AreMasks links join ends.items masks.items × (length ends.items ≤ 64)
