-- The sets of a query, and its rows level by level.
use Rattle.std.proofs.Common.{◌≡◌, ℕ, suc, ◌+◌, ◌<◌, ◌≤◌, Bool, true, false, List, [], ◌∷◌, ◌++◌, length, get_or, ◌&&◌, ◌⊎◌, ⊎_elim, sym, ap, ◌∙◌, subst, arith, ◌↔◌}
use Rattle.std.specs.Prelude.{take, drop, nat_lt, replicate}
use Rattle.std.proofs.lemmas.Bool.{cases_lt}
use Rattle.std.proofs.lemmas.List.{drop_more, drop_all, take_more, take_all, same_from_push, get_or_append_left, get_or_push, get_or_past, get_or-replicate, length-replicate}
use Rattle.wc_world.specs.World.{World}
use Rattle.wc_query.specs.declared.query.LinkTest.{LinkTest}
use Rattle.wc_query.specs.declared.query.NodeTest.{NodeTest}
use Rattle.wc_query.specs.declared.query.Query.{Query}
use Rattle.wc_matches.specs.First.{AreFirst, HasMore}
use Rattle.wc_matches.specs.Found.{AreBlank}
use Rattle.wc_matches.specs.Levels.{IsBegun, GoOnTo, joined}
use Rattle.wc_matches.specs.Matches.{IsMatch}
use Rattle.wc_matches.specs.Sets.{LeadsInto, AreWithin, IsSet, AreSets, LeadsToMarked}
use Rattle.wc_matches.proofs.Begun.{some_level, last_level}
use Rattle.wc_matches.proofs.Cutting.{first_less, more_is}
use Rattle.wc_matches.proofs.Placing.{each_goes_to, within_is}

abbrev Joins : Type 0
Joins = List (LinkTest × NodeTest)

-- ---- the sets

pub sets_more : (w : World) (joins : Joins) (at : ℕ) (join : LinkTest × NodeTest) (sets more : List (List Bool)) (set : List Bool) → at < length joins
    → join ≡ get_or joins at join → AreSets w (drop (at + 1) joins) sets → IsSet w join.1 (drop (at + 1) joins) set → more ≡ sets ++ set ∷ []
    → AreSets w (drop at joins) more
sets_more w joins at join sets more set lt is a s e =
    let here : drop at joins ≡ join ∷ drop (at + 1) joins = drop_more joins at join lt ∙ ap (λ (j : LinkTest × NodeTest). j ∷ drop (at + 1) joins) (sym is) in
    subst (λ (js : Joins). AreSets w js more) (sym here) (sets, set, e, s, a)

pub within_more : (w : World) (joins : Joins) (at : ℕ) (join : LinkTest × NodeTest) (set marks : List Bool) → at < length joins
    → join ≡ get_or joins at join → length marks ≡ length w.nodes + 1 → IsSet w join.1 (drop (at + 1) joins) set
    → ((n : ℕ) → (get_or marks n false ≡ true) ↔ LeadsToMarked w.links join.0 set n) → AreWithin w (drop at joins) marks
within_more w joins at join set marks lt is size s leads =
    let here : drop at joins ≡ join ∷ drop (at + 1) joins = drop_more joins at join lt ∙ ap (λ (j : LinkTest × NodeTest). j ∷ drop (at + 1) joins) (sym is) in
    subst (λ (js : Joins). AreWithin w js marks) (sym here) (within_is w join (drop (at + 1) joins) set marks size s leads)

-- ---- the sets, used up from the end

pub set_taken : (w : World) (joins : Joins) (i : ℕ) (join : LinkTest × NodeTest) (sets rest : List (List Bool)) (set : List Bool) → i < length joins
    → join ≡ get_or joins i join → AreSets w (drop i joins) sets → sets ≡ rest ++ set ∷ []
    → IsSet w join.1 (drop (i + 1) joins) set × AreSets w (drop (i + 1) joins) rest
set_taken w joins i join sets rest set lt is a e =
    let here : drop i joins ≡ join ∷ drop (i + 1) joins = drop_more joins i join lt ∙ ap (λ (j : LinkTest × NodeTest). j ∷ drop (i + 1) joins) (sym is) in
    let s = subst (λ (js : Joins). AreSets w js sets) here a in
    let same = same_from_push s.0 rest s.1 set (sym s.2 ∙ e) in (
      subst (λ (x : List Bool). IsSet w join.1 (drop (i + 1) joins) x) same.1 s.3,
      subst (λ (xs : List (List Bool)). AreSets w (drop (i + 1) joins) xs) same.0 s.4,
    )

-- ---- the rows

pub begun_more : (w : World) (q : Query) (i most : ℕ) (join : LinkTest × NodeTest) (set : List Bool) (rows out : List (List ℕ)) → i < length q.more
    → join ≡ get_or q.more i join → IsSet w join.1 (drop (i + 1) q.more) set → AreFirst (IsBegun w q.first (take i q.more) (drop i q.more)) most rows
    → GoOnTo (LeadsInto w.links join.0 set) most rows out → AreFirst (IsBegun w q.first (take (i + 1) q.more) (drop (i + 1) q.more)) most out
begun_more w q i most join set rows out lt is s f on =
    let left : Joins = drop (i + 1) q.more in
    let here : drop i q.more ≡ join ∷ left = drop_more q.more i join lt ∙ ap (λ (j : LinkTest × NodeTest). j ∷ left) (sym is) in
    let done : take i q.more ++ join ∷ [] ≡ take (i + 1) q.more = ap (λ (j : LinkTest × NodeTest). take i q.more ++ j ∷ []) is ∙ sym (take_more q.more i join lt) in
    let first : AreFirst (IsBegun w q.first (take i q.more) (join ∷ left)) most rows
    = subst (λ (js : Joins). AreFirst (IsBegun w q.first (take i q.more) js) most rows) here f in
    let k : ℕ = on.0 in
    let each : List (List (List ℕ)) = on.1.0 in
    let same : out ≡ joined most each = on.1.2 in
    let enough : (length rows ≤ k) ⊎ (length (joined most each) ≡ most) = subst (λ (xs : List (List ℕ)). (length rows ≤ k) ⊎ (length xs ≡ most)) same on.2 in
    let next = some_level w q (take i q.more) left join most k rows each first (each_goes_to w join left set most (take k rows) each s on.1.1) enough in
    subst (λ (js : Joins). AreFirst (IsBegun w q.first js left) most out) done
    (subst (λ (xs : List (List ℕ)). AreFirst (IsBegun w q.first (take i q.more ++ join ∷ []) left) most xs) (sym same) next)

pub all_begun : (w : World) (q : Query) (i most : ℕ) (rows : List (List ℕ)) → length q.more ≤ i → AreFirst (IsBegun w q.first (take i q.more) (drop i q.more)) most rows
    → AreFirst (IsBegun w q.first q.more []) most rows
all_begun w q i most rows all f =
    subst (λ (js : Joins). AreFirst (IsBegun w q.first js []) most rows) (take_all i q.more all)
    (subst (λ (js : Joins). AreFirst (IsBegun w q.first (take i q.more) js) most rows) (drop_all i q.more all) f)

module _ (w : World) (q : Query) (most limit : ℕ) (rows : List (List ℕ)) (is : most ≡ limit + 1) (f : AreFirst (IsBegun w q.first q.more []) most rows) where
  matched : AreFirst (IsMatch w q) (suc limit) rows
  matched =
      let e : most ≡ suc limit = omega (arith, is) in
      last_level w q (suc limit) rows (subst (λ (n : ℕ). AreFirst (IsBegun w q.first q.more []) n rows) e f)

  pub rows_match : (kept : List (List ℕ)) → kept ≡ take limit rows → AreFirst (IsMatch w q) limit kept
  rows_match kept e = subst (λ (xs : List (List ℕ)). AreFirst (IsMatch w q) limit xs) (sym e) (first_less (IsMatch w q) limit rows matched)

  pub more_match : (kept : List (List ℕ)) (more : Bool) → kept ≡ take limit rows → more ≡ nat_lt limit (length rows) → (more ≡ true) ↔ HasMore (IsMatch w q) kept
  more_match kept more e m =
      let both = more_is (IsMatch w q) limit rows matched in (
        λ t. subst (λ (xs : List (List ℕ)). HasMore (IsMatch w q) xs) (sym e) (both.0 (sym m ∙ t)),
        λ h. m ∙ both.1 (subst (λ (xs : List (List ℕ)). HasMore (IsMatch w q) xs) e h),
      )

-- ---- marks, one by one

pub mark_more : (f : ℕ → Bool) (set more : List Bool) (i : ℕ) (mark : Bool) → length set ≡ i → ((m : ℕ) → m < i → get_or set m false ≡ f m)
    → mark ≡ f i → more ≡ set ++ mark ∷ [] → (m : ℕ) → m < i + 1 → get_or more m false ≡ f m
mark_more f set more i mark size each here pushed m lt = ap (λ (xs : List Bool). get_or xs m false) pushed ∙ ⊎_elim
    (λ (below : m < i). get_or_append_left set (mark ∷ []) false m (omega (arith, size, below)) ∙ each m below)
    (λ (above : i ≤ m).
    let e : m ≡ i = omega (arith, above, lt) in
    get_or_push set mark false m (omega (arith, size, e)) ∙ here ∙ ap f (sym e))
    (cases_lt m i)

pub marks_all : (within set : List Bool) (f : ℕ → Bool) (i : ℕ) → length set ≡ i → length within ≤ i → ((m : ℕ) → m < i → get_or set m false ≡ (get_or within m false && f m))
    → (m : ℕ) → get_or set m false ≡ (get_or within m false && f m)
marks_all within set f i size all each m = ⊎_elim
    (λ (below : m < i). each m below)
    (λ (above : i ≤ m). get_or_past set m false (omega (arith, size, above))
    ∙ sym (ap (λ (b : Bool). b && f m) (get_or_past within m false (omega (arith, all, above)))))
    (cases_lt m i)

-- ---- equal marks

pub equal_size : (marks : List Bool) (count : ℕ) (mark : Bool) → marks ≡ replicate count mark → length marks ≡ count
equal_size marks count mark is = ap length is ∙ length-replicate count mark

pub equal_each : (marks : List Bool) (count : ℕ) (mark : Bool) → marks ≡ replicate count mark → (n : ℕ) → n < length marks → get_or marks n false ≡ mark
equal_each marks count mark is n lt =
    let size : length marks ≡ count = equal_size marks count mark is in
    ap (λ (xs : List Bool). get_or xs n false) is ∙ get_or-replicate count n mark false (omega (arith, size, lt))

pub equal_blank : (marks : List Bool) (count : ℕ) → marks ≡ replicate count false → AreBlank marks
equal_blank marks count is n = ⊎_elim
    (λ (lt : n < length marks). equal_each marks count false is n lt)
    (λ (ge : length marks ≤ n). get_or_past marks n false ge)
    (cases_lt n (length marks))
