-- The sets of nodes that may stand at each place of a row.
use Rattle.std.proofs.Common.{◌≡◌, ◌⊎◌, inl, inr, ⊎_elim, ℕ, zero, suc, ◌+◌, ◌<◌, ◌≤◌, ◌==◌, ◌&&◌, Bool, true, false, not, List, [], ◌∷◌, length, get_or, Option, refl, sym, ap, ◌∙◌, subst, arith, ◌↔◌, eq-eqb}
use Rattle.std.specs.List.{list_all}
use Rattle.std.specs.Option.{option_map_or}
use Rattle.std.proofs.lemmas.Bool.{and_parts, and_from, or_cases, or_left, eqb-true, cases_lt, true≢false}
use Rattle.std.proofs.lemmas.Option.{slice_get_past}
use Rattle.wc_world.specs.World.{World}
use Rattle.wc_graph.specs.Rules.{node_of}
use Rattle.wc_graph.specs.Walks.{Walks, Reaches}
use Rattle.wc_graph.specs.declared.link.Link.{Link}
use Rattle.wc_graph.specs.declared.link.LinkType.{LinkType}
use Rattle.wc_graph.specs.declared.node.NodeKind.{NodeKind}
use Rattle.wc_graph.proofs.JoinedWalks.{reaches_as, reaches_back}
use Rattle.wc_query.specs.declared.query.LinkTest.{LinkTest}
use Rattle.wc_query.specs.declared.query.NodeTest.{NodeTest}
use Rattle.wc_matches.specs.First.{AreFirst}
use Rattle.wc_matches.specs.Found.{has, AreMarked, FromSome}
use Rattle.wc_matches.specs.Joins.{Steps, OpenSteps, IsJoined, IsJoinedBy, IsJoinedPast}
use Rattle.wc_matches.specs.Levels.{Goes, AreEach, IsBegun, GoesTo}
use Rattle.wc_matches.specs.Meets.{meets, is_of_kind, passes}
use Rattle.wc_matches.specs.Numbers.{Ascends, AreNumbers}
use Rattle.wc_matches.specs.Sets.{LeadsToMarked, LeadsToSome, LeadsInto, AreOpen, AreWithin, IsSet}
use Rattle.wc_matches.proofs.Begun.{next_of, first_same}

abbrev Joins : Type 0
Joins = List (LinkTest × NodeTest)

-- ---- the other way round

back : (walk forward : Bool) (types : List LinkType) (links : List Link) (n m : ℕ) → IsJoinedBy walk (not forward) types links m n → IsJoinedBy walk forward types links n m
back false true types links n m h = h
back false false types links n m h = h
back true true types links n m h = reaches_back (Steps false types links) (Steps true types links) (λ x y s. s) m n h
back true false types links n m h = reaches_back (Steps true types links) (Steps false types links) (λ x y s. s) m n h

turned : (walk forward : Bool) (types : List LinkType) (links : List Link) (n m : ℕ) → IsJoinedBy walk forward types links n m → IsJoinedBy walk (not forward) types links m n
turned false true types links n m h = h
turned false false types links n m h = h
turned true true types links n m h = reaches_back (Steps true types links) (Steps false types links) (λ x y s. s) n m h
turned true false types links n m h = reaches_back (Steps false types links) (Steps true types links) (λ x y s. s) n m h

-- where nothing is barred, these are all joins
all_open : (walk forward : Bool) (types : List LinkType) (links : List Link) (n m : ℕ) → IsJoinedPast walk forward types [] links n m → IsJoinedBy walk forward types links n m
all_open false forward types links n m h = h.0
all_open true forward types links n m h = reaches_as (OpenSteps forward types [] links) (Steps forward types links) (λ x y s. s.0) n m h

none_barred : (walk forward : Bool) (types : List LinkType) (links : List Link) (n m : ℕ) → IsJoinedBy walk forward types links n m → IsJoinedPast walk forward types [] links n m
none_barred false forward types links n m h = (h, refl)
none_barred true forward types links n m h = reaches_as (Steps forward types links) (OpenSteps forward types [] links) (λ x y s. (s, refl)) n m h

-- what is joined the other way with some nodes leads to them
pub leads_where : (links : List Link) (join : LinkTest) (marks : List Bool) (ends found : List ℕ)
    → ((n : ℕ) → (has found n ≡ true) ↔ FromSome (IsJoinedPast join.walk (not join.forward) join.types [] links) ends n) → AreMarked marks found
    → (n : ℕ) → (get_or marks n false ≡ true) ↔ LeadsToSome links join ends n
leads_where links join marks ends found joined marked n = (
  λ h. let s = (joined n).0 (sym (marked n) ∙ h) in
      (s.0, back join.walk join.forward join.types links n s.0 (all_open join.walk (not join.forward) join.types links s.0 n s.2), s.1),
  λ h. marked n ∙ (joined n).1 (h.0, h.2, none_barred join.walk (not join.forward) join.types links h.0 n (turned join.walk join.forward join.types links n h.0 h.1)),
)

-- those of a set are the marked ones
pub leads_marked : (links : List Link) (join : LinkTest) (set marks : List Bool) (ends : List ℕ) → AreNumbers (λ m. get_or set m false ≡ true) ends
    → ((n : ℕ) → (get_or marks n false ≡ true) ↔ LeadsToSome links join ends n) → (n : ℕ) → (get_or marks n false ≡ true) ↔ LeadsToMarked links join set n
leads_marked links join set marks ends numbers leads n = (
  λ h. let s = (leads n).0 h in (s.0, s.1, (numbers.each s.0).0 s.2),
  λ h. (leads n).1 (h.0, h.1, (numbers.each h.0).1 h.2),
)

-- ---- what a search finds that comes to no barred node

open_walk : (S T : ℕ → ℕ → Type 0) (B : ℕ → Type 0) (m : ℕ) → ((x y : ℕ) → S x y → B y → T x y) → B m → ((x : ℕ) → Reaches S x m → B x)
    → (n : ℕ) (through : List ℕ) → Walks S n through m → Walks T n through m
open_walk S T B m both last on n [] w = both n m w last
open_walk S T B m both last on n (x ∷ rest) w = (both n x w.0 (on x (rest, w.1)), open_walk S T B m both last on x rest w.1)

-- a join of a node with a marked one comes to none that is barred, where those are open that lead to marked ones
past_of : (walk forward : Bool) (types : List LinkType) (links : List Link) (set barred : List Bool)
    → ((x : ℕ) → (get_or set x false ≡ true) ⊎ ((m : ℕ) × IsJoinedBy walk forward types links x m × (get_or set m false ≡ true)) → get_or barred x false ≡ false)
    → (n m : ℕ) → get_or set m false ≡ true → IsJoinedBy walk forward types links n m → IsJoinedPast walk forward types barred links n m
past_of false forward types links set barred free n m marked h = (h, free m (inl marked))
past_of true forward types links set barred free n m marked h = (
  h.0,
  open_walk (Steps forward types links) (OpenSteps forward types barred links) (λ x. get_or barred x false ≡ false) m (λ x y s b. (s, b))
      (free m (inl marked)) (λ x r. free x (inr (m, r, marked))) n h.0 h.1,
)

joined_past : (walk forward : Bool) (types : List LinkType) (barred : List Bool) (links : List Link) (n m : ℕ) → IsJoinedPast walk forward types barred links n m → IsJoinedBy walk forward types links n m
joined_past false forward types barred links n m h = h.0
joined_past true forward types barred links n m h = reaches_as (OpenSteps forward types barred links) (Steps forward types links) (λ x y s. s.0) n m h

-- the marked ones that were found, in order
pub numbers_found : (links : List Link) (join : LinkTest) (set barred : List Bool) (node : ℕ) (found kept ids : List ℕ) → AreOpen links join set barred
    → ((m : ℕ) → (has found m ≡ true) ↔ FromSome (IsJoinedPast join.walk join.forward join.types barred links) (node ∷ []) m)
    → ((m : ℕ) → has kept m ≡ (has found m && get_or set m false)) → Ascends ids → ((m : ℕ) → has ids m ≡ has kept m)
    → AreNumbers (λ m. IsJoined links join node m × (get_or set m false ≡ true)) ids
numbers_found links join set barred node found kept ids free exactly both ascend same = record {
  ascend = ascend;
  each = λ m. (
    λ h. let p = and_parts (has found m) (get_or set m false) (sym (same m ∙ both m) ∙ h) in
        let s = (exactly m).0 p.0 in
        let from : node ≡ s.0 = ⊎_elim (λ (k : (node == s.0) ≡ true). eqb-true node s.0 k) (λ (k : has [] s.0 ≡ true). absurd (true≢false (sym k))) (or_cases (node == s.0) (has [] s.0) s.1) in
        (subst (λ (x : ℕ). IsJoined links join x m) (sym from) (joined_past join.walk join.forward join.types barred links s.0 m s.2), p.1),
    λ h. same m ∙ both m ∙ and_from (has found m) (get_or set m false)
        ((exactly m).1 (node, or_left (node == node) false (eq-eqb node node refl), past_of join.walk join.forward join.types links set barred free node m h.1 h.0)) h.1,
  );
}

-- ---- what meets a test is there

some_there : (nodes : List NodeKind) (n : ℕ) (f : NodeKind → Bool) → option_map_or f (node_of nodes n) false ≡ true → n < length nodes + 1
some_there nodes zero f h = absurd (true≢false (sym h))
some_there nodes (suc place) f h = ⊎_elim
    (λ (lt : place < length nodes). omega (arith, lt))
    (λ (ge : length nodes ≤ place). absurd (true≢false (sym h ∙ ap (λ (o : Option NodeKind). option_map_or f o false) (slice_get_past nodes place ge))))
    (cases_lt place (length nodes))

pub meets_there : (w : World) (t : NodeTest) (n : ℕ) → meets w t n ≡ true → n < length w.nodes + 1
unfolding meets
meets_there w t n h = some_there w.nodes n _ (and_parts (is_of_kind w n t.kind) (list_all (passes w n) t.filters) h).0

-- ---- a place

pub set_is : (w : World) (test : NodeTest) (joins : Joins) (within set : List Bool) → AreWithin w joins within
    → ((m : ℕ) → get_or set m false ≡ (get_or within m false && meets w test m)) → IsSet w test joins set
set_is w test joins within set a h m = (
  λ on.
      let p = and_parts (get_or within m false) (meets w test m) (sym (h m) ∙ on) in
      (p.1, (a.each m (meets_there w test m p.1)).0 p.0),
  λ p. h m ∙ and_from (get_or within m false) (meets w test m) ((a.each m (meets_there w test m p.0)).1 p.1) p.0,
)

pub within_is : (w : World) (join : LinkTest × NodeTest) (joins : Joins) (set marks : List Bool) → length marks ≡ length w.nodes + 1 → IsSet w join.1 joins set
    → ((n : ℕ) → (get_or marks n false ≡ true) ↔ LeadsToMarked w.links join.0 set n) → AreWithin w (join ∷ joins) marks
within_is w join joins set marks size is leads = record {
  size = size;
  each = λ n lt. (
    λ h.
        let s = (leads n).0 h in
        let p = (is s.0).0 s.2 in
        (s.0 ∷ p.1.0, (s.1, p.0, p.1.1)),
    λ h. let next = next_of w join joins n h in (leads n).1 (next.0, next.1, (is next.0).1 (next.2, next.3)),
  );
}

-- ---- rows

-- the numbers of the first set are the rows of one node
pub first_begun : (w : World) (first : NodeTest) (left : Joins) (set : List Bool) (most : ℕ) (rows : List (List ℕ)) → IsSet w first left set
    → AreFirst (Goes (λ row m. get_or set m false ≡ true) []) most rows → AreFirst (IsBegun w first [] left) most rows
first_begun w first left set most rows is f =
    first_same (Goes (λ row m. get_or set m false ≡ true) []) (IsBegun w first [] left) most rows to from f
  where
    to : (row : List ℕ) → Goes (λ r m. get_or set m false ≡ true) [] row → IsBegun w first [] left row
    to row g = subst (λ (r : List ℕ). IsBegun w first [] left r) (sym g.1) ((is g.0).0 g.2)

    from : (row : List ℕ) → IsBegun w first [] left row → Goes (λ r m. get_or set m false ≡ true) [] row
    from [] h = absurd h
    from (n ∷ []) h = (n, refl, (is n).1 (h.0, h.1))
    from (n ∷ m ∷ ms) h = absurd h.1

goes_to : (w : World) (join : LinkTest × NodeTest) (left : Joins) (set : List Bool) → IsSet w join.1 left set → (row : List ℕ) (m : ℕ)
    → LeadsInto w.links join.0 set row m → GoesTo w join left row m
goes_to w join left set is [] m h = absurd h
goes_to w join left set is (n ∷ ns) m h = let p = (is m).0 h.1 in (h.0, p.0, p.1)

leads_into : (w : World) (join : LinkTest × NodeTest) (left : Joins) (set : List Bool) → IsSet w join.1 left set → (row : List ℕ) (m : ℕ)
    → GoesTo w join left row m → LeadsInto w.links join.0 set row m
leads_into w join left set is [] m h = absurd h
leads_into w join left set is (n ∷ ns) m h = (h.0, (is m).1 (h.1, h.2))

each_as : (R S : List ℕ → ℕ → Type 0) (most : ℕ) (rows : List (List ℕ)) (each : List (List (List ℕ))) → ((row : List ℕ) (m : ℕ) → R row m → S row m)
    → ((row : List ℕ) (m : ℕ) → S row m → R row m) → AreEach R most rows each → AreEach S most rows each
each_as R S most [] [] to from h = tt
each_as R S most [] (e ∷ es) to from h = absurd h
each_as R S most (r ∷ rs) [] to from h = absurd h
each_as R S most (r ∷ rs) (e ∷ es) to from h = (
  first_same (Goes R r) (Goes S r) most e (λ longer g. (g.0, g.1, to r g.0 g.2)) (λ longer g. (g.0, g.1, from r g.0 g.2)) h.0,
  each_as R S most rs es to from h.1,
)

pub each_goes_to : (w : World) (join : LinkTest × NodeTest) (left : Joins) (set : List Bool) (most : ℕ) (rows : List (List ℕ)) (each : List (List (List ℕ)))
    → IsSet w join.1 left set → AreEach (LeadsInto w.links join.0 set) most rows each → AreEach (GoesTo w join left) most rows each
each_goes_to w join left set most rows each is h =
    each_as (LeadsInto w.links join.0 set) (GoesTo w join left) most rows each (goes_to w join left set is) (leads_into w join left set is) h
