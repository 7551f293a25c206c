-- Rows that begin a match, and what they go on to.
use Rattle.std.specs.Prelude.{◌≡◌, ◌⊎◌, ◌≤◌, ℕ, true, List, [], ◌∷◌, ◌++◌, length, take}
use Rattle.wc_world.specs.World.{World}
use Rattle.wc_query.specs.declared.query.LinkTest.{LinkTest}
use Rattle.wc_query.specs.declared.query.NodeTest.{NodeTest}
use Rattle.wc_matches.specs.First.{AreFirst}
use Rattle.wc_matches.specs.Joins.{IsJoined}
use Rattle.wc_matches.specs.Matches.{Follows}
use Rattle.wc_matches.specs.Meets.{meets}

-- a row with one number behind it, which it may have there
abbrev pub Goes : (List ℕ → ℕ → Type 0) → List ℕ → List ℕ → Type 0
Goes R row longer = (m : ℕ) × (longer ≡ row ++ m ∷ []) × R row m

-- one of these rows goes on to it
abbrev pub SomeGoes : (List ℕ → ℕ → Type 0) → List (List ℕ) → List ℕ → Type 0
SomeGoes R [] longer = ⊥
SomeGoes R (row ∷ rows) longer = Goes R row longer ⊎ SomeGoes R rows longer

-- for each row the first so many that it goes on to
abbrev pub AreEach : (List ℕ → ℕ → Type 0) → ℕ → List (List ℕ) → List (List (List ℕ)) → Type 0
AreEach R n [] [] = Unit {0}
AreEach R n [] (firsts ∷ more) = ⊥
AreEach R n (row ∷ rows) [] = ⊥
AreEach R n (row ∷ rows) (firsts ∷ more) = AreFirst (Goes R row) n firsts × AreEach R n rows more

-- the first so many of all
abbrev pub joined : ℕ → List (List (List ℕ)) → List (List ℕ)
joined n [] = []
joined n (firsts ∷ more) = take n (firsts ++ joined n more)

-- the first so many that rows go on to
abbrev pub AllGoOnTo : (List ℕ → ℕ → Type 0) → ℕ → List (List ℕ) → List (List ℕ) → Type 0
AllGoOnTo R most rows out = (each : List (List (List ℕ))) × AreEach R most rows each × (out ≡ joined most each)

-- The same, where the rest of the rows may be left out: as many are there already as may be.
abbrev pub GoOnTo : (List ℕ → ℕ → Type 0) → ℕ → List (List ℕ) → List (List ℕ) → Type 0
GoOnTo R most rows out = (k : ℕ) × AllGoOnTo R most (take k rows) out × ((length rows ≤ k) ⊎ (length out ≡ most))

-- a row of which P holds goes on to it
abbrev pub GoesOnFrom : (List ℕ → Type 0) → (List ℕ → ℕ → Type 0) → List ℕ → Type 0
GoesOnFrom P R longer = (row : List ℕ) × P row × Goes R row longer

-- ---- beginnings

-- behind a node the rest of a query can follow
abbrev pub GoesOn : World → List (LinkTest × NodeTest) → ℕ → Type 0
GoesOn w js n = (rest : List ℕ) × Follows w js n rest

-- Behind a node stand these further ones, one for each of the first joins, and behind the last of them the other joins can follow.
abbrev pub Begins : World → List (LinkTest × NodeTest) → List (LinkTest × NodeTest) → ℕ → List ℕ → Type 0
Begins w [] left n [] = GoesOn w left n
Begins w [] left n (m ∷ ms) = ⊥
Begins w (j ∷ js) left n [] = ⊥
Begins w (j ∷ js) left n (m ∷ ms) = IsJoined w.links j.0 n m × (meets w j.1 m ≡ true) × Begins w js left m ms

-- the row is the beginning of a match, by these first joins
abbrev pub IsBegun : World → NodeTest → List (LinkTest × NodeTest) → List (LinkTest × NodeTest) → List ℕ → Type 0
IsBegun w first done left [] = ⊥
IsBegun w first done left (n ∷ ns) = (meets w first n ≡ true) × Begins w done left n ns

-- the last number of a row that has one in front
abbrev pub last_of : ℕ → List ℕ → ℕ
last_of n [] = n
last_of n (m ∷ ms) = last_of m ms

-- A row goes on to a node: a join leads from its last node to it, it meets the join's test, and the other joins can follow.
abbrev pub GoesTo : World → LinkTest × NodeTest → List (LinkTest × NodeTest) → List ℕ → ℕ → Type 0
GoesTo w join left [] m = ⊥
GoesTo w join left (n ∷ ns) m = IsJoined w.links join.0 (last_of n ns) m × (meets w join.1 m ≡ true) × GoesOn w left m
