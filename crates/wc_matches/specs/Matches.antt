-- Which rows of nodes match a query.
use Rattle.std.specs.Prelude.{◌≡◌, ℕ, true, List, [], ◌∷◌}
use Rattle.wc_world.specs.World.{World}
use Rattle.wc_query.specs.declared.query.LinkTest.{LinkTest}
use Rattle.wc_query.specs.declared.query.NodeTest.{NodeTest}
use Rattle.wc_query.specs.declared.query.Query.{Query}
use Rattle.wc_matches.specs.Joins.{IsJoined}
use Rattle.wc_matches.specs.Meets.{meets}

-- Behind a node there are these further ones, one for each join.
abbrev pub Follows : World → List (LinkTest × NodeTest) → ℕ → List ℕ → Type 0
Follows w [] n [] = Unit {0}
Follows w [] n (m ∷ ms) = ⊥
Follows w (j ∷ js) n [] = ⊥
Follows w (j ∷ js) n (m ∷ ms) = IsJoined w.links j.0 n m × (meets w j.1 m ≡ true) × Follows w js m ms

-- The row has as many nodes as the query, each meets its test, and each two neighbours are joined.
abbrev pub IsMatch : World → Query → List ℕ → Type 0
IsMatch w q [] = ⊥
IsMatch w q (n ∷ ns) = (meets w q.first n ≡ true) × Follows w q.more n ns
