-- A search settles whether a node lies on a closed walk.
use Rattle.std.proofs.Common.{◌≡◌, ◌≢◌, ℕ, ◌+◌, ◌<◌, ◌≤◌, Bool, true, false, List, [], ◌∷◌, ◌++◌, length, get_or, take, drop, replicate, Contains, ◌^◌, ⊎_elim, ◌↔◌, refl, sym, ap, ◌∙◌, subst, arith}
use Rattle.std.proofs.lemmas.Bool.{cases_eq, cases_lt}
use Rattle.std.proofs.lemmas.List.{get_or_past, drop_all, take_at}
use Rattle.wc_graph.specs.Walks.{Walks, Reaches, IsClosedWalk}
use Rattle.wc_graph.specs.declared.flood.Found.{Found}
use Rattle.wc_graph.specs.Near.{Near, IsTable}
use Rattle.wc_graph.specs.Flood.{Floods, CanFlood}
use Rattle.wc_graph.specs.Cycle.{IsLeastCycle, AreConverse, KeepsColour, CanSettle, Settles, IsClosedFrom}
use Rattle.wc_graph.proofs.JoinedWalks.{reaches_step, reaches_then, reaches_join, reaches_back, walk_join, walk_as, reaches_as}
use Rattle.wc_graph.proofs.Reaching.{found_reaches, InTrail, start_in, found_in, next_found, get_or_zeros}

pub can_flood : (table : List (List ℕ)) (node fresh : ℕ) (colours : List ℕ) → CanSettle table node colours → fresh ≡ node + 1 → CanFlood table node fresh colours
can_flood table node fresh colours s is = record {
  start_in = s.node_in;
  sizes = s.sizes;
  inside = s.inside;
  is_fresh = λ k p. let h : get_or colours k 0 ≤ node = s.below k in absurd (omega arith);
}

module _ (table : List (List ℕ)) (node fresh : ℕ) (before after : List ℕ) (trail : List Found)
    (can : CanSettle table node before) (is : fresh ≡ node + 1) (floods : Floods table node fresh before after trail (length trail)) where
  -- a closed walk through a node that was found is found whole
  walk_stays : (x a : ℕ) (through : List ℕ) → InTrail table node fresh before after trail floods x
      → get_or before x 0 ≡ get_or before node 0 → Reaches (Near table) a x → Walks (Near table) x through a → get_or after a 0 ≡ fresh
  walk_stays x a [] i old r w =
      next_found table node fresh before after trail floods x a i w (sym (can.keeps x a w r) ∙ old)
  walk_stays x a (c ∷ cs) i old r w =
      let back : Reaches (Near table) c x = reaches_join (Near table) c a x (cs, w.1) r in
      let same : get_or before c 0 ≡ get_or before node 0 = sym (can.keeps x c w.0 back) ∙ old in
      let f : get_or after c 0 ≡ fresh = next_found table node fresh before after trail floods x c i w.0 same in
      walk_stays c a cs (found_in table node fresh before after trail floods c f) same (reaches_then (Near table) a x c r w.0) w.1

  found_old : (x : ℕ) → get_or after x 0 ≡ fresh → get_or before x 0 ≡ get_or before node 0
  found_old x p = let f = floods.found x p in ap (λ n. get_or before n 0) (sym f.3) ∙ (floods.coloured f.0 f.1 f.2).0

  -- colours still tell closed walks apart
  keeps : KeepsColour table after
  keeps from to step back =
      let same : get_or before from 0 ≡ get_or before to 0 = can.keeps from to step back in
      ⊎_elim
      (λ p.
      let i = found_in table node fresh before after trail floods from p in
      p ∙ sym (next_found table node fresh before after trail floods from to i step (sym same ∙ found_old from p)))
      (λ p.
      ⊎_elim
      (λ q.
      let i = found_in table node fresh before after trail floods to q in
      absurd (p (walk_stays to from back.0 i (found_old to q) (reaches_step (Near table) from to step) back.1)))
      (λ q. floods.others from p ∙ same ∙ sym (floods.others to q))
      (cases_eq (get_or after to 0) fresh))
      (cases_eq (get_or after from 0) fresh)

  below : (k : ℕ) → get_or after k 0 ≤ node + 1
  below k =
      ⊎_elim
      (λ p. omega arith)
      (λ p. let q : get_or after k 0 ≡ get_or before k 0 = floods.others k p in let h : get_or before k 0 ≤ node = can.below k in omega arith)
      (cases_eq (get_or after k 0) fresh)

  closed_found : (through : List ℕ) → Walks (Near table) node through node → get_or after node 0 ≡ fresh
  closed_found [] w =
      next_found table node fresh before after trail floods node node (start_in table node fresh before after trail floods) w refl
  closed_found (c ∷ cs) w =
      walk_stays node node (c ∷ cs) (start_in table node fresh before after trail floods) refl (c ∷ cs, w) w

  pub settles : (answer : Bool) → (answer ≡ true → get_or after node 0 ≡ fresh) → (answer ≡ false → get_or after node 0 ≢ fresh)
      → Settles table node after answer
  settles answer if_found if_not = record {
    keeps = keeps;
    below = below;
    on_cycle = λ p. found_reaches table node fresh before after trail floods node (if_found p);
    off_cycle = λ p r. if_not p (closed_found r.0 r.1);
  }

-- ---- the other way round
converse_of : (forward backward : List (List ℕ)) → AreConverse forward backward → (x y : ℕ) → Near forward x y → Near backward y x
converse_of forward backward c x y = (c.steps y x).1

back_of : (forward backward : List (List ℕ)) → AreConverse forward backward → (x y : ℕ) → Near backward x y → Near forward y x
back_of forward backward c x y = (c.steps x y).0

pub can_settle_back : (forward backward : List (List ℕ)) (node : ℕ) (colours : List ℕ) → AreConverse forward backward
    → CanSettle forward node colours → CanSettle backward node colours
can_settle_back forward backward node colours c s = record {
  node_in = s.node_in;
  few = s.few;
  sizes = c.sizes ∙ s.sizes;
  inside = λ from to n. subst (λ (m : ℕ). to < m) s.sizes (c.inside_back from to n);
  keeps = λ from to step back.
      sym (s.keeps to from (back_of forward backward c from to step)
      (reaches_back (Near backward) (Near forward) (back_of forward backward c) to from back));
  below = s.below;
}

pub settles_back : (forward backward : List (List ℕ)) (node : ℕ) (colours : List ℕ) (answer : Bool) → AreConverse forward backward
    → Settles backward node colours answer → Settles forward node colours answer
settles_back forward backward node colours answer c s = record {
  keeps = λ from to step back.
      sym (s.keeps to from (converse_of forward backward c from to step)
      (reaches_back (Near forward) (Near backward) (converse_of forward backward c) to from back));
  below = s.below;
  on_cycle = λ p. reaches_back (Near backward) (Near forward) (back_of forward backward c) node node (s.on_cycle p);
  off_cycle = λ p r. s.off_cycle p (reaches_back (Near forward) (Near backward) (converse_of forward backward c) node node r);
}

-- ---- from the first node on
near_from : (table : List (List ℕ)) (from to : ℕ) → Near table from to → from < length table
near_from table from to n =
    ⊎_elim (λ lt. lt)
    (λ ge.
    let e : get_or table from [] ≡ [] = get_or_past table from [] ge in
    let k : Contains [] to = subst (λ (l : List ℕ). Contains l to) e n in
    absurd (omega (arith, k.1)))
    (cases_lt from (length table))

reaches_from : (table : List (List ℕ)) (from to : ℕ) (through : List ℕ) → Walks (Near table) from through to → from < length table
reaches_from table from to [] w = near_from table from to w
reaches_from table from to (c ∷ cs) w = near_from table from c w.0

-- no node lies on a closed walk, where none of the table does
pub none_on_cycle : (table : List (List ℕ)) (n : ℕ) → length table ≤ n → ((k : ℕ) → k < n → ¬ Reaches (Near table) k k)
    → (k : ℕ) → ¬ Reaches (Near table) k k
none_on_cycle table n all none k r = none k (let h : k < length table = reaches_from table k k r.0 r.1 in omega arith) r

pub can_settle : (forward backward : List (List ℕ)) (node : ℕ) (colours : List ℕ) → AreConverse forward backward → length forward < 2 ^ 32
    → length colours ≡ length forward → node < length forward → KeepsColour forward colours → ((k : ℕ) → get_or colours k 0 ≤ node)
    → CanSettle forward node colours
can_settle forward backward node colours c few size lt keeps below = record {
  node_in = omega arith;
  few = omega arith;
  sizes = sym size;
  inside = λ from to n. let h : to < length forward = c.inside from to n in omega arith;
  keeps = keeps;
  below = below;
}

zero_at : (n k : ℕ) (colours : List ℕ) → colours ≡ replicate n 0 → get_or colours k 0 ≡ 0
zero_at n k colours is = ap (λ l. get_or l k 0) is ∙ get_or_zeros n k

pub zeros_keep : (table : List (List ℕ)) (n : ℕ) (colours : List ℕ) → colours ≡ replicate n 0 → KeepsColour table colours
zeros_keep table n colours is = λ from to step back. zero_at n from colours is ∙ sym (zero_at n to colours is)

pub zeros_below : (n : ℕ) (colours : List ℕ) → colours ≡ replicate n 0 → (k : ℕ) → get_or colours k 0 ≤ 0
zeros_below n colours is k = let z = zero_at n k colours is in omega arith

-- ---- the way back along a trail
-- the nodes so far, which lead to a node from which to go on
abbrev pub LeadsOn : (ℕ → ℕ → Type 0) → ℕ → ℕ → List ℕ → Type 0
LeadsOn step from to [] = to ≡ from
LeadsOn step from to (first ∷ rest) = (first ≡ from) × Walks step first rest to

pub leads_on_more : (step : ℕ → ℕ → Type 0) (from to next : ℕ) (ids : List ℕ) → LeadsOn step from to ids → step to next
    → LeadsOn step from next (ids ++ to ∷ [])
leads_on_more step from to next [] h s = (h, s)
leads_on_more step from to next (first ∷ rest) h s = (h.0, walk_join step first to next rest [] h.1 s)

pub leads_on_all : (step : ℕ → ℕ → Type 0) (from to : ℕ) (ids : List ℕ) → LeadsOn step from to ids → 0 < length ids → IsClosedFrom step from to ids
leads_on_all step from to [] h pos = absurd (omega arith)
leads_on_all step from to (first ∷ rest) h pos = h

pub closed_from_is : (step : ℕ → ℕ → Type 0) (from from' to to' : ℕ) (ids : List ℕ) → from ≡ from' → to ≡ to' → IsClosedFrom step from to ids → IsClosedFrom step from' to' ids
closed_from_is step from from' to to' ids p q h =
    subst (λ (n : ℕ). IsClosedFrom step n to' ids) p (subst (λ (n : ℕ). IsClosedFrom step from n ids) q h)

pub least_cycle_from : (forward backward : List (List ℕ)) (node : ℕ) (ids : List ℕ) → AreConverse forward backward
    → IsClosedFrom (λ from to. Near backward to from) node node ids → ((k : ℕ) → k < node → ¬ Reaches (Near forward) k k)
    → IsLeastCycle (Near forward) ids
least_cycle_from forward backward node [] c h least = absurd h
least_cycle_from forward backward node (first ∷ rest) c h least = record {
  closed =
      let w : Walks (λ from to. Near backward to from) first rest first = subst (λ (n : ℕ). Walks (λ from to. Near backward to from) first rest n) (sym h.0) h.1 in
      walk_as (λ from to. Near backward to from) (Near forward) (λ x y n. (c.steps y x).0 n) first first rest w;
  least = λ k r. ⊎_elim (λ lt. absurd (least k lt r)) (λ ge. let e : first ≡ node = h.0 in omega arith) (cases_lt k node);
}

pub reaches_conversely : (forward backward : List (List ℕ)) (node : ℕ) → AreConverse forward backward → Reaches (Near forward) node node
    → Reaches (Near backward) node node
reaches_conversely forward backward node c r = reaches_back (Near forward) (Near backward) (converse_of forward backward c) node node r

-- a slice that was lent, back in its vector
pub slice_back : (len : ℕ) (new items : List ℕ) → len ≡ length items → length new ≡ length items → take len (new ++ drop (length new) items) ≡ new
slice_back len new items p q =
    let e : drop (length new) items ≡ [] = drop_all (length new) items (omega arith) in
    ap (λ l. take len (new ++ l)) e ∙ take_at new [] len (omega arith)

pub converse_tables : (step : ℕ → ℕ → Type 0) (greatest : ℕ) (forward backward : List (List ℕ)) → IsTable step greatest forward
    → IsTable (λ from to. step to from) greatest backward → AreConverse forward backward
converse_tables step greatest forward backward f b =
    let fs : length forward ≡ greatest + 1 = f.size in
    let bs : length backward ≡ greatest + 1 = b.size in
    record {
      sizes = bs ∙ sym fs;
      inside = λ from to n. let h : to ≤ greatest = f.inside from to n in omega arith;
      inside_back = λ from to n. let h : to ≤ greatest = b.inside from to n in omega arith;
      steps = λ from to. (λ n. (f.steps to from).1 ((b.steps from to).0 n), λ n. (b.steps from to).1 ((f.steps to from).0 n));
    }

least_closed_as : (S R : ℕ → ℕ → Type 0) → ((x y : ℕ) → S x y → R x y) → (ids : List ℕ) → IsClosedWalk S ids → IsClosedWalk R ids
least_closed_as S R h [] c = absurd c
least_closed_as S R h (first ∷ rest) c = walk_as S R h first first rest c

pub least_cycle_as : (S R : ℕ → ℕ → Type 0) → ((x y : ℕ) → S x y ↔ R x y) → (ids : List ℕ) → IsLeastCycle S ids → IsLeastCycle R ids
least_cycle_as S R h ids l = record {
  closed = least_closed_as S R (λ x y. (h x y).0) ids l.closed;
  least = λ node r. l.least node (reaches_as R S (λ x y. (h x y).1) node node r);
}
