-- How a search along links goes on, and what it has found in the end.
use Rattle.std.proofs.Common.{◌≡◌, ◌⊎◌, inl, inr, ⊎_elim, ℕ, ◌+◌, ◌-◌, ◌<◌, ◌≤◌, ◌==◌, ◌||◌, Bool, true, false, List, [], ◌∷◌, ◌++◌, length, get_or, take, Some, refl, sym, ap, ◌∙◌, subst, arith, ◌↔◌, eq-eqb}
use Rattle.std.specs.Prelude.{slice_get}
use Rattle.std.proofs.lemmas.Bool.{cases_eq, cases_order, or_cases, or_left, or_right, eqb-true, true≢false}
use Rattle.std.proofs.lemmas.List.{get_or_default}
use Rattle.std.proofs.lemmas.List.Folds.{list_any-append, list_any_more, list_any_at, Any-from_list_any}
use Rattle.std.proofs.lemmas.Option.{slice_get_within, slice_get-get_or, get_or_from_slice_get}
use Rattle.wc_graph.specs.Index.{Skips}
use Rattle.wc_graph.specs.Walks.{Walks, Reaches}
use Rattle.wc_graph.specs.declared.link.Link.{Link}
use Rattle.wc_graph.specs.declared.link.LinkType.{LinkType}
use Rattle.wc_graph.proofs.JoinedWalks.{reaches_step, reaches_then, reaches_after}
use Rattle.wc_matches.specs.Joins.{OpenSteps, IsJoinedPast}
use Rattle.wc_matches.specs.Found.{has, Finds, start_of, end_of, LeadsFrom, LeadsBehind, FromSome, IsClosed}

-- ---- numbers of a list

or_none : (b : Bool) → (b || false) ≡ b
or_none true = refl
or_none false = refl

pub has_push : (xs : List ℕ) (x m : ℕ) → has (xs ++ x ∷ []) m ≡ (has xs m || (x == m))
has_push xs x m = list_any-append (λ k. k == m) xs (x ∷ []) ∙ ap (λ (b : Bool). has xs m || b) (or_none (x == m))

pub has_none : (m : ℕ) → has [] m ≡ true → ⊥
has_none m h = true≢false (sym h)

has_at : (xs : List ℕ) (k : ℕ) → k < length xs → has xs (get_or xs k 0) ≡ true
has_at xs k lt = list_any_at (λ m. m == get_or xs k 0) xs k 0 lt (eq-eqb (get_or xs k 0) (get_or xs k 0) refl)

-- where a number of a list stands
pub place_of : (xs : List ℕ) (m : ℕ) → has xs m ≡ true → (k : ℕ) × (k < length xs) × (get_or xs k 0 ≡ m)
place_of xs m h =
    let a = Any-from_list_any (λ k. k == m) xs h in
    (a.0, a.2, get_or_default xs a.0 0 a.1 a.2 ∙ a.3 ∙ eqb-true a.1 m a.4)

-- ---- one after the other

pub finds_then : (P Q R : ℕ → Type 0) (marks middle after : List Bool) (before between found : List ℕ) → Finds P marks middle before between
    → Finds Q middle after between found → ((m : ℕ) → R m → P m ⊎ Q m) → ((m : ℕ) → P m → R m) → ((m : ℕ) → Q m → R m) → Finds R marks after before found
finds_then P Q R marks middle after before between found f g split left right =
    let short : length before ≤ length between = f.longer in
    let long : length between ≤ length found = g.longer in
    record {
      size = g.size ∙ f.size;
      marked = g.marked;
      count = g.count ∙ f.count;
      kept = λ m h. g.kept m (f.kept m h);
      all = λ m r. ⊎_elim (λ (p : P m). g.kept m (f.all m p)) (λ (q : Q m). g.all m q) (split m r);
      only = λ m h. ⊎_elim
          (λ (old : has between m ≡ true). ⊎_elim (λ (older : has before m ≡ true). inl older) (λ (p : P m). inr (left m p)) (f.only m old))
          (λ (q : Q m). inr (right m q)) (g.only m h);
      stay = λ k lt. g.stay k (omega (arith, lt, short)) ∙ f.stay k lt;
      longer = omega (arith, short, long);
    }

pub finds_as : (P Q : ℕ → Type 0) (marks after : List Bool) (before found : List ℕ) → Finds P marks after before found
    → ((m : ℕ) → Q m → P m) → ((m : ℕ) → P m → Q m) → Finds Q marks after before found
finds_as P Q marks after before found f to from = record {
  size = f.size;
  marked = f.marked;
  count = f.count;
  kept = f.kept;
  all = λ m q. f.all m (to m q);
  only = λ m h. ⊎_elim (λ (old : has before m ≡ true). inl old) (λ (p : P m). inr (from m p)) (f.only m h);
  stay = f.stay;
  longer = f.longer;
}

-- ---- down the links of a node

module _ (forward : Bool) (types : List LinkType) (barred : List Bool) (links : List Link) (node : ℕ) where
  -- the link in front of those behind, and what is skipped
  module _ (at next : ℕ) (l : Link) (some : 0 < at) (read : slice_get links (at - 1) ≡ Some l) (s : Skips (start_of forward) links node (at - 1) next) where
    pub behind_still : (m : ℕ) → LeadsBehind forward types barred links node at m → LeadsBehind forward types barred links node next m
    behind_still m h = (h.0, h.1, h.2, omega (arith, s.within, h.3), h.4, h.5)

    pub behind_here : LeadsFrom forward types barred node l → (m : ℕ) → m ≡ end_of forward l → LeadsBehind forward types barred links node next m
    behind_here leads m e = (at - 1, l, read, s.within, leads, sym e)

    same_link : (k : ℕ) (x : Link) → slice_get links k ≡ Some x → k ≡ at - 1 → x ≡ l
    same_link k x here e = let there : slice_get links k ≡ Some l = ap (slice_get links) e ∙ read in cc

    pub behind_split : (m : ℕ) → LeadsBehind forward types barred links node next m → LeadsBehind forward types barred links node at m ⊎ (LeadsFrom forward types barred node l × (m ≡ end_of forward l))
    behind_split m h = ⊎_elim
        (λ (same : h.0 ≡ at - 1).
        let e : h.1 ≡ l = same_link h.0 h.1 h.2 same in
        inr (subst (λ (x : Link). LeadsFrom forward types barred node x) e h.4, sym h.5 ∙ ap (end_of forward) e))
        (λ apart. ⊎_elim
        (λ (below : h.0 < at - 1). absurd (s.others h.0 h.1 h.2 h.3 below h.4.1))
        (λ (above : at - 1 < h.0). inl (h.0, h.1, h.2, omega (arith, above), h.4, h.5)) apart)
        (cases_order h.0 (at - 1))

-- a link anywhere
pub steps_behind : (forward : Bool) (types : List LinkType) (barred : List Bool) (links : List Link) (node at m : ℕ) → at ≡ 0 → OpenSteps forward types barred links node m
    → LeadsBehind forward types barred links node at m
steps_behind true types barred links node at m none ((k, l, lt, is, (c, from, to)), free) =
    (k, l, slice_get-get_or links k l lt ∙ ap (λ (x : Link). Some x) is, omega (arith, none), (c, from, ap (λ (x : ℕ). get_or barred x false) to ∙ free), to)
steps_behind false types barred links node at m none ((k, l, lt, is, (c, from, to)), free) =
    (k, l, slice_get-get_or links k l lt ∙ ap (λ (x : Link). Some x) is, omega (arith, none), (c, to, ap (λ (x : ℕ). get_or barred x false) from ∙ free), from)

pub behind_steps : (forward : Bool) (types : List LinkType) (barred : List Bool) (links : List Link) (node at m : ℕ) → LeadsBehind forward types barred links node at m
    → OpenSteps forward types barred links node m
behind_steps true types barred links node at m (k, l, is, le, leads, e) =
    ((k, l, slice_get_within links k l is, get_or_from_slice_get links k l l is, (leads.0, leads.1, e)), ap (λ (x : ℕ). get_or barred x false) (sym e) ∙ leads.2)
behind_steps false types barred links node at m (k, l, is, le, leads, e) =
    ((k, l, slice_get_within links k l is, get_or_from_slice_get links k l l is, (leads.0, e, leads.1)), ap (λ (x : ℕ). get_or barred x false) (sym e) ∙ leads.2)

-- one link further
pub spread_on : (forward : Bool) (types : List LinkType) (barred : List Bool) (links : List Link) (node at next : ℕ) (l : Link) (marks middle after : List Bool) (before between found : List ℕ) (e : ℕ)
    → 0 < at → slice_get links (at - 1) ≡ Some l → Skips (start_of forward) links node (at - 1) next
    → Finds (LeadsBehind forward types barred links node at) marks middle before between → LeadsFrom forward types barred node l → e ≡ end_of forward l
    → Finds (λ m. m ≡ e) middle after between found → Finds (LeadsBehind forward types barred links node next) marks after before found
spread_on forward types barred links node at next l marks middle after before between found e some read s f leads is g =
    finds_then (LeadsBehind forward types barred links node at) (λ m. m ≡ e) (LeadsBehind forward types barred links node next) marks middle after before between found f g
    (λ m h. ⊎_elim (λ (a : LeadsBehind forward types barred links node at m). inl a) (λ (b : LeadsFrom forward types barred node l × (m ≡ end_of forward l)). inr (b.1 ∙ sym is))
    (behind_split forward types barred links node at next l some read s m h))
    (behind_still forward types barred links node at next l some read s)
    (λ m h. behind_here forward types barred links node at next l some read s leads m (h ∙ is))

-- a link that leads elsewhere
pub spread_past : (forward : Bool) (types : List LinkType) (barred : List Bool) (links : List Link) (node at next : ℕ) (l : Link) (marks after : List Bool) (before found : List ℕ)
    → 0 < at → slice_get links (at - 1) ≡ Some l → Skips (start_of forward) links node (at - 1) next
    → Finds (LeadsBehind forward types barred links node at) marks after before found → (LeadsFrom forward types barred node l → ⊥)
    → Finds (LeadsBehind forward types barred links node next) marks after before found
spread_past forward types barred links node at next l marks after before found some read s f never =
    finds_as (LeadsBehind forward types barred links node at) (LeadsBehind forward types barred links node next) marks after before found f
    (λ m h. ⊎_elim (λ (a : LeadsBehind forward types barred links node at m). a) (λ (b : LeadsFrom forward types barred node l × (m ≡ end_of forward l)). absurd (never b.0))
    (behind_split forward types barred links node at next l some read s m h))
    (behind_still forward types barred links node at next l some read s)

pub finds_is : (P : ℕ → Type 0) (marks after after' : List Bool) (before found found' : List ℕ) → after' ≡ after → found' ≡ found → Finds P marks after before found
    → Finds P marks after' before found'
finds_is P marks after after' before found found' p q f =
    subst (λ (xs : List Bool). Finds P marks xs before found') (sym p) (subst (λ (xs : List ℕ). Finds P marks after before xs) (sym q) f)

-- ---- from some nodes

module _ (step : ℕ → ℕ → Type 0) (froms : List ℕ) (i : ℕ) (lt : i < length froms) where
  more : (n : ℕ) → has (take (i + 1) froms) n ≡ (has (take i froms) n || (get_or froms i 0 == n))
  more n = list_any_more (λ k. k == n) froms i 0 lt

  pub from_split : (m : ℕ) → FromSome step (take (i + 1) froms) m → FromSome step (take i froms) m ⊎ step (get_or froms i 0) m
  from_split m h = ⊎_elim
      (λ (a : has (take i froms) h.0 ≡ true). inl (h.0, a, h.2))
      (λ (b : (get_or froms i 0 == h.0) ≡ true). inr (subst (λ (n : ℕ). step n m) (sym (eqb-true (get_or froms i 0) h.0 b)) h.2))
      (or_cases (has (take i froms) h.0) (get_or froms i 0 == h.0) (sym (more h.0) ∙ h.1))

  pub from_left : (m : ℕ) → FromSome step (take i froms) m → FromSome step (take (i + 1) froms) m
  from_left m h = (h.0, more h.0 ∙ or_left (has (take i froms) h.0) (get_or froms i 0 == h.0) h.1, h.2)

  pub from_right : (m : ℕ) → step (get_or froms i 0) m → FromSome step (take (i + 1) froms) m
  from_right m h =
      let n = get_or froms i 0 in
      (n, more n ∙ or_right (has (take i froms) n) (n == n) (eq-eqb n n refl), h)

-- ---- closing

pub closed_more : (step : ℕ → ℕ → Type 0) (marks after : List Bool) (before found more : List ℕ) (done node : ℕ) → IsClosed step before found done
    → done < length found → node ≡ get_or found done 0 → Finds (step node) marks after found more → IsClosed step before more (done + 1)
closed_more step marks after before found more done node c lt is f = record {
  kept = λ m h. f.kept m (c.kept m h);
  only = λ m h. ⊎_elim (λ (old : has found m ≡ true). c.only m old) (λ (s : step node m). inr (from_node m s)) (f.only m h);
  spread = λ k le m s. ⊎_elim
      (λ (e : k ≡ done). f.all m (subst (λ (n : ℕ). step n m) (f.stay k (omega (arith, e, lt)) ∙ ap (λ n. get_or found n 0) e ∙ sym is) s))
      (λ (ne : k ≡ done → ⊥).
      let below : k < done = omega (arith, le, ne) in
      f.kept m (c.spread k below m (subst (λ (n : ℕ). step n m) (f.stay k (omega (arith, below, lt))) s)))
      (cases_eq k done);
}
  where
    node_found : has found node ≡ true
    node_found = subst (λ (n : ℕ). has found n ≡ true) (sym is) (has_at found done lt)

    from_node : (m : ℕ) → step node m → FromSome (Reaches step) before m
    from_node m s = ⊎_elim
        (λ (old : has before node ≡ true). (node, old, reaches_step step node m s))
        (λ (h : FromSome (Reaches step) before node). (h.0, h.1, reaches_then step h.0 node m h.2 s))
        (c.only node node_found)

-- ---- all that are joined

walk_found : (step : ℕ → ℕ → Type 0) (before found : List ℕ) → IsClosed step before found (length found) → (n m : ℕ) (through : List ℕ) → has found n ≡ true
    → Walks step n through m → has found m ≡ true
walk_found step before found c n m [] h w =
    let p = place_of found n h in c.spread p.0 p.1 m (subst (λ (k : ℕ). step k m) (sym p.2) w)
walk_found step before found c n m (next ∷ rest) h w =
    let p = place_of found n h in
    walk_found step before found c next m rest (c.spread p.0 p.1 next (subst (λ (k : ℕ). step k next) (sym p.2) w.0)) w.1

links_only : (step : ℕ → ℕ → Type 0) (froms : List ℕ) (marks after : List Bool) (none found : List ℕ) → none ≡ [] → Finds (FromSome step froms) marks after none found
    → (m : ℕ) → (has found m ≡ true) ↔ FromSome step froms m
links_only step froms marks after none found e f m = (
  λ h. ⊎_elim (λ (old : has none m ≡ true). absurd (has_none m (ap (λ (xs : List ℕ). has xs m) (sym e) ∙ old))) (λ (s : FromSome step froms m). s) (f.only m h),
  λ s. f.all m s,
)

module _ (step : ℕ → ℕ → Type 0) (froms : List ℕ) (marks after : List Bool) (none first found : List ℕ) (e : none ≡ []) (f : Finds (FromSome step froms) marks after none first)
    (c : IsClosed step first found (length found)) where
  by_walk : (n m : ℕ) → has froms n ≡ true → (through : List ℕ) → Walks step n through m → has found m ≡ true
  by_walk n m h [] w = c.kept m (f.all m (n, h, w))
  by_walk n m h (next ∷ rest) w = walk_found step first found c next m rest (c.kept next (f.all next (n, h, w.0))) w.1

  walks_too : (m : ℕ) → (has found m ≡ true) ↔ FromSome (Reaches step) froms m
  walks_too m = (
    λ h. ⊎_elim
        (λ (old : has first m ≡ true). let s = (links_only step froms marks after none first e f m).0 old in (s.0, s.1, reaches_step step s.0 m s.2))
        (λ (r : FromSome (Reaches step) first m).
        let s = (links_only step froms marks after none first e f r.0).0 r.1 in
        (s.0, s.1, reaches_after step s.0 r.0 m s.2 r.2))
        (c.only m h),
    λ s. by_walk s.0 m s.1 s.2.0 s.2.1,
  )

pub joined_by_links : (walk forward : Bool) (types : List LinkType) (barred : List Bool) (links : List Link) (froms : List ℕ) (marks after : List Bool) (none found : List ℕ) → walk ≡ false → none ≡ []
    → Finds (FromSome (OpenSteps forward types barred links) froms) marks after none found → (m : ℕ) → (has found m ≡ true) ↔ FromSome (IsJoinedPast walk forward types barred links) froms m
joined_by_links true forward types barred links froms marks after none found w e f m = absurd (true≢false w)
joined_by_links false forward types barred links froms marks after none found w e f m = links_only (OpenSteps forward types barred links) froms marks after none found e f m

pub joined_by_walks : (walk forward : Bool) (types : List LinkType) (barred : List Bool) (links : List Link) (froms : List ℕ) (marks after : List Bool) (none first found : List ℕ) → walk ≡ true → none ≡ []
    → Finds (FromSome (OpenSteps forward types barred links) froms) marks after none first → IsClosed (OpenSteps forward types barred links) first found (length found)
    → (m : ℕ) → (has found m ≡ true) ↔ FromSome (IsJoinedPast walk forward types barred links) froms m
joined_by_walks true forward types barred links froms marks after none first found w e f c m = walks_too (OpenSteps forward types barred links) froms marks after none first found e f c m
joined_by_walks false forward types barred links froms marks after none first found w e f c m = absurd (true≢false (sym w))

-- ---- taking marks back

abbrev pub MarksLeft : List Bool → List ℕ → Type 0
MarksLeft marks found = (m : ℕ) → get_or marks m false ≡ true → has found m ≡ true
