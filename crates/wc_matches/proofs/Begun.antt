-- Rows that begin a match grow by one node.
use Rattle.std.proofs.Common.{◌≡◌, ◌⊎◌, ◌≤◌, ℕ, List, [], ◌∷◌, ◌++◌, length, take, true, refl, sym, ap, subst}
use Rattle.std.specs.List.{AllByRecursion}
use Rattle.wc_world.specs.World.{World}
use Rattle.wc_query.specs.declared.query.LinkTest.{LinkTest}
use Rattle.wc_query.specs.declared.query.NodeTest.{NodeTest}
use Rattle.wc_query.specs.declared.query.Query.{Query}
use Rattle.wc_matches.specs.First.{AreFirst}
use Rattle.wc_matches.specs.Levels.{AreEach, joined, GoesOnFrom, GoesOn, Begins, IsBegun, last_of, GoesTo}
use Rattle.wc_matches.specs.Joins.{IsJoined}
use Rattle.wc_matches.specs.Matches.{Follows, IsMatch}
use Rattle.wc_matches.specs.Meets.{meets}
use Rattle.wc_matches.proofs.Levels.{level, level_some}

abbrev Joins : Type 0
Joins = List (LinkTest × NodeTest)

-- ---- what goes on

pub next_of : (w : World) (join : LinkTest × NodeTest) (js : Joins) (n : ℕ) → GoesOn w (join ∷ js) n
    → (m : ℕ) × IsJoined w.links join.0 n m × (meets w join.1 m ≡ true) × GoesOn w js m
next_of w join js n ([], h) = absurd h
next_of w join js n (m ∷ ms, h) = (m, h.0, h.1, (ms, h.2))

-- the first joins of a row lead to its last node, behind which the others can follow
behind_last : (w : World) (done left : Joins) (n : ℕ) (ns : List ℕ) → Begins w done left n ns → GoesOn w left (last_of n ns)
behind_last w [] left n [] h = h
behind_last w [] left n (m ∷ ms) h = absurd h
behind_last w (j ∷ js) left n [] h = absurd h
behind_last w (j ∷ js) left n (m ∷ ms) h = behind_last w js left m ms h.2

pub goes_on : (w : World) (first : NodeTest) (done left : Joins) (join : LinkTest × NodeTest) (row : List ℕ) → IsBegun w first done (join ∷ left) row
    → (m : ℕ) × GoesTo w join left row m
goes_on w first done left join [] h = absurd h
goes_on w first done left join (n ∷ ns) h =
    let next = next_of w join left (last_of n ns) (behind_last w done (join ∷ left) n ns h.1) in
    (next.0, (next.1, next.2, next.3))

-- ---- one node more

longer_begins : (w : World) (done left : Joins) (join : LinkTest × NodeTest) (n : ℕ) (ns : List ℕ) (m : ℕ) → Begins w done (join ∷ left) n ns
    → IsJoined w.links join.0 (last_of n ns) m → meets w join.1 m ≡ true → GoesOn w left m → Begins w (done ++ join ∷ []) left n (ns ++ m ∷ [])
longer_begins w [] left join n [] m h j t g = (j, t, g)
longer_begins w [] left join n (k ∷ ks) m h j t g = absurd h
longer_begins w (i ∷ is) left join n [] m h j t g = absurd h
longer_begins w (i ∷ is) left join n (k ∷ ks) m h j t g = (h.0, h.1, longer_begins w is left join k ks m h.2 j t g)

-- a row without its last node
record Shorter (w : World) (done left : Joins) (join : LinkTest × NodeTest) (n : ℕ) (ns : List ℕ) : Type 0 where
  front : List ℕ
  last : ℕ
  whole : ns ≡ front ++ last ∷ []
  begins : Begins w done (join ∷ left) n front
  joined : IsJoined w.links join.0 (last_of n front) last
  met : meets w join.1 last ≡ true
  on : GoesOn w left last

shorter : (w : World) (done left : Joins) (join : LinkTest × NodeTest) (n : ℕ) (ns : List ℕ) → Begins w (done ++ join ∷ []) left n ns → Shorter w done left join n ns
shorter w [] left join n [] h = absurd h
shorter w [] left join n (m ∷ []) h =
    record { front = []; last = m; whole = refl; begins = (m ∷ h.2.0, (h.0, h.1, h.2.1)); joined = h.0; met = h.1; on = h.2 }
shorter w [] left join n (m ∷ k ∷ ks) h = absurd h.2
shorter w (i ∷ is) left join n [] h = absurd h
shorter w (i ∷ is) left join n (m ∷ ms) h =
    let s = shorter w is left join m ms h.2 in
    record { front = m ∷ s.front; last = s.last; whole = ap (λ (l : List ℕ). m ∷ l) s.whole; begins = (h.0, h.1, s.begins); joined = s.joined; met = s.met; on = s.on }

from_begun : (w : World) (first : NodeTest) (done left : Joins) (join : LinkTest × NodeTest) (longer : List ℕ)
    → GoesOnFrom (IsBegun w first done (join ∷ left)) (GoesTo w join left) longer → IsBegun w first (done ++ join ∷ []) left longer
from_begun w first done left join longer ([], p, g) = absurd p
from_begun w first done left join longer (n ∷ ns, p, g) =
    subst (λ (l : List ℕ). IsBegun w first (done ++ join ∷ []) left l) (sym g.1) (p.0, longer_begins w done left join n ns g.0 p.1 g.2.0 g.2.1 g.2.2)

to_begun : (w : World) (first : NodeTest) (done left : Joins) (join : LinkTest × NodeTest) (longer : List ℕ)
    → IsBegun w first (done ++ join ∷ []) left longer → GoesOnFrom (IsBegun w first done (join ∷ left)) (GoesTo w join left) longer
to_begun w first done left join [] h = absurd h
to_begun w first done left join (n ∷ ns) h =
    let s = shorter w done left join n ns h.1 in
    (n ∷ s.front, (h.0, s.begins), (s.last, ap (λ (l : List ℕ). n ∷ l) s.whole, (s.joined, s.met, s.on)))

-- ---- the first of what means the same

all_same : (P Q : List ℕ → Type 0) (rows : List (List ℕ)) → ((row : List ℕ) → P row → Q row) → AllByRecursion P rows → AllByRecursion Q rows
all_same P Q [] f h = tt
all_same P Q (r ∷ rows) f h = (f r h.0, all_same P Q rows f h.1)

pub first_same : (P Q : List ℕ → Type 0) (n : ℕ) (rows : List (List ℕ)) → ((row : List ℕ) → P row → Q row) → ((row : List ℕ) → Q row → P row)
    → AreFirst P n rows → AreFirst Q n rows
first_same P Q n rows to from f = record { ascend = f.ascend; each = all_same P Q rows to f.each; few = f.few; others = λ row h. f.others row (from row h) }

pub one_level : (w : World) (q : Query) (done left : Joins) (join : LinkTest × NodeTest) (most : ℕ) (rows : List (List ℕ)) (each : List (List (List ℕ)))
    → AreFirst (IsBegun w q.first done (join ∷ left)) most rows → AreEach (GoesTo w join left) most rows each
    → AreFirst (IsBegun w q.first (done ++ join ∷ []) left) most (joined most each)
one_level w q done left join most rows each f e =
    first_same (GoesOnFrom (IsBegun w q.first done (join ∷ left)) (GoesTo w join left)) (IsBegun w q.first (done ++ join ∷ []) left) most (joined most each)
    (from_begun w q.first done left join) (to_begun w q.first done left join)
    (level (IsBegun w q.first done (join ∷ left)) (GoesTo w join left) most rows each f (goes_on w q.first done left join) e)

pub some_level : (w : World) (q : Query) (done left : Joins) (join : LinkTest × NodeTest) (most k : ℕ) (rows : List (List ℕ)) (each : List (List (List ℕ)))
    → AreFirst (IsBegun w q.first done (join ∷ left)) most rows → AreEach (GoesTo w join left) most (take k rows) each → (length rows ≤ k) ⊎ (length (joined most each) ≡ most)
    → AreFirst (IsBegun w q.first (done ++ join ∷ []) left) most (joined most each)
some_level w q done left join most k rows each f e enough =
    first_same (GoesOnFrom (IsBegun w q.first done (join ∷ left)) (GoesTo w join left)) (IsBegun w q.first (done ++ join ∷ []) left) most (joined most each)
    (from_begun w q.first done left join) (to_begun w q.first done left join)
    (level_some (IsBegun w q.first done (join ∷ left)) (GoesTo w join left) most k rows each f (goes_on w q.first done left join) e enough)

-- ---- the last level

follows_all : (w : World) (js : Joins) (n : ℕ) (ms : List ℕ) → Begins w js [] n ms → Follows w js n ms
follows_all w [] n [] h = tt
follows_all w [] n (m ∷ ms) h = absurd h
follows_all w (j ∷ js) n [] h = absurd h
follows_all w (j ∷ js) n (m ∷ ms) h = (h.0, h.1, follows_all w js m ms h.2)

begins_all : (w : World) (js : Joins) (n : ℕ) (ms : List ℕ) → Follows w js n ms → Begins w js [] n ms
begins_all w [] n [] h = ([], tt)
begins_all w [] n (m ∷ ms) h = absurd h
begins_all w (j ∷ js) n [] h = absurd h
begins_all w (j ∷ js) n (m ∷ ms) h = (h.0, h.1, begins_all w js m ms h.2)

match_of : (w : World) (q : Query) (row : List ℕ) → IsBegun w q.first q.more [] row → IsMatch w q row
match_of w q [] h = absurd h
match_of w q (n ∷ ns) h = (h.0, follows_all w q.more n ns h.1)

begun_of : (w : World) (q : Query) (row : List ℕ) → IsMatch w q row → IsBegun w q.first q.more [] row
begun_of w q [] h = absurd h
begun_of w q (n ∷ ns) h = (h.0, begins_all w q.more n ns h.1)

-- the rows that begin a match by all joins are those that match
pub last_level : (w : World) (q : Query) (most : ℕ) (rows : List (List ℕ)) → AreFirst (IsBegun w q.first q.more []) most rows → AreFirst (IsMatch w q) most rows
last_level w q most rows f = first_same (IsBegun w q.first q.more []) (IsMatch w q) most rows (match_of w q) (begun_of w q) f
