-- Laws of rows.
use Rattle.std.specs.Prelude.{◌≡◌, ◌↔◌, ℕ, suc, true, nat_lt, List, [], ◌∷◌, ◌++◌, length, take}
use Rattle.wc_world.specs.World.{World}
use Rattle.wc_query.specs.declared.query.LinkTest.{LinkTest}
use Rattle.wc_query.specs.declared.query.NodeTest.{NodeTest}
use Rattle.wc_query.specs.declared.query.Query.{Query}
use Rattle.wc_matches.specs.First.{AreFirst, HasMore}
use Rattle.wc_matches.specs.Levels.{AreEach, joined, IsBegun, GoesTo}
use Rattle.wc_matches.specs.Matches.{IsMatch}

-- Two lists of the first so many rows that match are one.
abbrev pub FirstAreOne : Type 0
FirstAreOne = (w : World) (q : Query) (most : ℕ) (xs ys : List (List ℕ)) → AreFirst (IsMatch w q) most xs → AreFirst (IsMatch w q) most ys → xs ≡ ys

-- The first rows that begin a match with so many joins, each with the first rows that it goes on to by the next join, give the first rows
-- that begin a match with one join more.
abbrev pub OneLevel : Type 0
OneLevel = (w : World) (q : Query) (done left : List (LinkTest × NodeTest)) (join : LinkTest × NodeTest) (most : ℕ) (rows : List (List ℕ)) (each : List (List (List ℕ)))
    → AreFirst (IsBegun w q.first done (join ∷ left)) most rows → AreEach (GoesTo w join left) most rows each
    → AreFirst (IsBegun w q.first (done ++ join ∷ []) left) most (joined most each)

-- Of one row more than the most that begin a match by all joins, the first that match are left, and there are further ones exactly where
-- there was one row more.
abbrev pub LastLevel : Type 0
LastLevel = (w : World) (q : Query) (most : ℕ) (rows : List (List ℕ)) → AreFirst (IsBegun w q.first q.more []) (suc most) rows
    → AreFirst (IsMatch w q) most (take most rows) × ((nat_lt most (length rows) ≡ true) ↔ HasMore (IsMatch w q) (take most rows))
