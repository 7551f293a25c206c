-- Nodes placed one after another.
use Rattle.std.proofs.Common.{◌≡◌, ◌≢◌, ℕ, zero, suc, ◌+◌, ◌-◌, ◌<◌, ◌≤◌, nat_eq, false, List, [], ◌∷◌, ◌++◌, length, get_or, take, All, Contains, ◌↔◌, ◌⊎◌, inl, inr, ⊎_elim, refl, sym, ap, ◌∙◌, subst, arith, ne_eqb}
use Rattle.std.specs.List.{list_any, IsDistinct, AllByRecursion}
use Rattle.std.proofs.lemmas.Bool.{cases_eq, cases_lt, false_from_ne_true}
use Rattle.std.proofs.lemmas.Cmp.{nat_eq_equiv}
use Rattle.std.proofs.lemmas.List.{length_push, get_or_append_left, get_or_push, get_or_default, get_or-take, take_at, take-append-le, length-take-le}
use Rattle.std.proofs.lemmas.List.Elements.{Contains-append_left, Contains-push, Contains-push_cases}
use Rattle.std.proofs.lemmas.Map.Keys.{IsDistinct-push}
use Rattle.std.proofs.lemmas.Map.Steps.{length-le_from_distinct_below}
use Rattle.wc_graph.specs.declared.node.NodeKind.{NodeKind}
use Rattle.wc_graph.specs.declared.link.Link.{Link}
use Rattle.wc_graph.specs.Rules.{IsLinkCorrect}
use Rattle.wc_graph.specs.Walks.{Walks, Reaches, Leads, data_types, IsAcyclic}
use Rattle.wc_graph.specs.declared.near.Way.TheVariants.{Forward}
use Rattle.wc_graph.specs.Near.{near_of}
use Rattle.wc_graph.specs.Reached.{IsNode}
use Rattle.wc_graph.specs.Order.{IsNext, IsOrder, waits, times}
use Rattle.wc_graph.specs.Choice.{data_choice}
use Rattle.wc_graph.proofs.JoinedWalks.{reaches_step, reaches_then, reaches_after}
use Rattle.wc_graph.proofs.Linked.{ends_are_nodes}
use Rattle.wc_graph.proofs.Nearing.{contains_cases, near_leads}
use Rattle.wc_graph.proofs.Counting.{chooses_data, in_from_any, decide_in, waits_some, waits_none, waits_from, waits_placed}

nil_distinct : IsDistinct nat_eq []
unfolding IsDistinct
nil_distinct = tt

positive_from : (a t w : ℕ) → a + t ≡ w → a ≡ 0 → (w ≡ 0 → ⊥) → 0 < t
positive_from a t w e z n = ⊎_elim (λ k. absurd (n (omega arith))) (λ k. omega arith) (cases_eq t 0)

only : (x q n : ℕ) → Contains (x ∷ []) q → x ≤ n → q ≤ n
only x q n c h = contains_cases x q [] c (λ e. subst (λ (m : ℕ). m ≤ n) e h) (λ r. absurd (omega (arith, r.1)))

module _ (nodes : List NodeKind) (links : List Link) where
  abbrev Data : ℕ → ℕ → Type 0
  Data = Leads data_types links

  -- the ends of a step are nodes
  pub step_ends : IsLinkCorrect nodes links → (source target : ℕ) → Data source target → IsNode nodes source × IsNode nodes target
  step_ends c source target s =
      let h = ends_are_nodes nodes links c s.0 s.1 s.2 in
      let l : get_or links s.0 s.1 ≡ s.1 = s.3 in
      (subst (IsNode nodes) (ap (λ (m : Link). m.source) l ∙ s.4.1) h.0, subst (IsNode nodes) (ap (λ (m : Link). m.target) l ∙ s.4.2) h.1)

  -- what the loop keeps, where `In` says which nodes are ready
  pub record Placing (placed waiting : List ℕ) (In : ℕ → Type 0) : Type 0 where
    pub size : length waiting ≡ length nodes + 1
    pub counts : (node : ℕ) → get_or waiting node 0 ≡ waits placed links node
    pub ready : (node : ℕ) → In node ↔ (IsNode nodes node × (Contains placed node → ⊥) × (get_or waiting node 0 ≡ 0))
    pub done : (node : ℕ) → Contains placed node → get_or waiting node 0 ≡ 0
    pub distinct : IsDistinct nat_eq placed
    pub within : (node : ℕ) → Contains placed node → node ≤ length nodes
    pub next : (place : ℕ) → place < length placed → IsNext nodes links (take place placed) (get_or placed place 0)

  pub placing_none : (placed waiting : List ℕ) (In : ℕ → Type 0) → placed ≡ [] → length waiting ≡ length nodes + 1
      → ((node : ℕ) → get_or waiting node 0 ≡ waits [] links node)
      → ((node : ℕ) → In node ↔ ((1 ≤ node) × (node < length waiting) × (get_or waiting node 0 ≡ 0)))
      → Placing placed waiting In
  placing_none placed waiting In is size counts ready =
      let none : (node : ℕ) → Contains placed node → ⊥ = λ node c. let k : c.0 < length placed = c.1 in let l : length placed ≡ 0 = ap length is in omega arith in
      record {
        size = size;
        counts = λ node. counts node ∙ ap (λ p. waits p links node) (sym is);
        ready = λ node. (
          λ h. let r = (ready node).0 h in let lt : node < length waiting = r.1 in ((r.0, omega arith), none node, r.2),
          λ h. let le : node ≤ length nodes = h.0.1 in (ready node).1 (h.0.0, omega arith, h.2),
        );
        done = λ node c. absurd (none node c);
        distinct = subst (IsDistinct nat_eq) (sym is) nil_distinct;
        within = λ node c. absurd (none node c);
        next = λ place lt. let l : length placed ≡ 0 = ap length is in absurd (omega arith);
      }

  -- a ready node is the next
  next_ready : (placed waiting : List ℕ) (In : ℕ → Type 0) (v : ℕ) → Placing placed waiting In → In v → ((q : ℕ) → In q → v ≤ q)
      → IsNext nodes links placed v
  next_ready placed waiting In v p i low =
      let r = (p.ready v).0 i in
      record {
        may_come = record {
          is_node = r.0;
          is_new = r.1;
          sources = waits_none placed links v (sym (p.counts v) ∙ r.2);
        };
        lowest = λ q m. low q ((p.ready q).1 (m.is_node, m.is_new, p.counts q ∙ waits_from placed links q m.sources));
      }

  placed_more : (placed placed' : List ℕ) (v place : ℕ) → placed' ≡ placed ++ v ∷ [] → place < length placed'
      → ((k : ℕ) → k < length placed → IsNext nodes links (take k placed) (get_or placed k 0)) → IsNext nodes links placed v
      → IsNext nodes links (take place placed') (get_or placed' place 0)
  placed_more placed placed' v place is lt old new =
      let len : length placed' ≡ length placed + 1 = ap length is ∙ length_push placed v in
      ⊎_elim
      (λ in'.
      let front : take place placed' ≡ take place placed = ap (take place) is ∙ take-append-le place placed (v ∷ []) (omega arith) in
      let item : get_or placed' place 0 ≡ get_or placed place 0 = ap (λ l. get_or l place 0) is ∙ get_or_append_left placed (v ∷ []) 0 place in' in
      subst (λ (l : List ℕ). IsNext nodes links l (get_or placed' place 0)) (sym front)
      (subst (IsNext nodes links (take place placed)) (sym item) (old place in')))
      (λ out.
      let e : length placed ≡ place = omega arith in
      let front : take place placed' ≡ placed = ap (take place) is ∙ take_at placed (v ∷ []) place e in
      let item : get_or placed' place 0 ≡ v = ap (λ l. get_or l place 0) is ∙ get_or_push placed v 0 place e in
      subst (λ (l : List ℕ). IsNext nodes links l (get_or placed' place 0)) (sym front) (subst (IsNext nodes links placed) (sym item) new))
      (cases_lt place (length placed))

  not_among : (placed : List ℕ) (v : ℕ) → (Contains placed v → ⊥) → list_any (nat_eq v) placed ≡ false
  not_among placed v h = false_from_ne_true (list_any (nat_eq v) placed) (λ t. h (in_from_any v placed t))

  -- one more node is placed, and its links are released
  pub placing_more : IsLinkCorrect nodes links → (placed placed' waiting waiting' targets : List ℕ) (In Left In' : ℕ → Type 0) (v : ℕ)
      → Placing placed waiting In → In v → ((q : ℕ) → In q → v ≤ q) → placed' ≡ placed ++ v ∷ [] → targets ≡ near_of data_choice Forward links v
      → ((q : ℕ) → Left q ↔ ((v ≢ q) × In q)) → length waiting' ≡ length waiting
      → ((node : ℕ) → get_or waiting' node 0 + times node targets ≡ get_or waiting node 0)
      → ((q : ℕ) → In' q ↔ (Left q ⊎ ((0 < times q targets) × (get_or waiting' q 0 ≡ 0))))
      → ((q : ℕ) → 0 < times q targets → Data v q)
      → Placing placed' waiting' In'
  placing_more correct placed placed' waiting waiting' targets In Left In' v p i low is targets_is left size less in' steps =
      let r = (p.ready v).0 i in
      let fewer : (q : ℕ) → get_or waiting q 0 ≡ 0 → get_or waiting' q 0 ≡ 0 = λ q z. let h = less q in omega arith in
      let cases : (q : ℕ) → Contains placed' q → Contains placed q ⊎ (v ≡ q) = λ q c. Contains-push_cases placed v q (subst (λ (l : List ℕ). Contains l q) is c) in
      let old_in : (q : ℕ) → Contains placed q → Contains placed' q = λ q c. subst (λ (l : List ℕ). Contains l q) (sym is) (Contains-append_left placed (v ∷ []) q c) in
      let new_in : Contains placed' v = subst (λ (l : List ℕ). Contains l v) (sym is) (Contains-push placed v) in
      let done : (q : ℕ) → Contains placed' q → get_or waiting q 0 ≡ 0 = λ q c. ⊎_elim (λ o. p.done q o) (λ e. ap (λ n. get_or waiting n 0) (sym e) ∙ r.2) (cases q c) in
      record {
        size = size ∙ p.size;
        counts = λ node.
            let h = less node in
            let a : waits placed links node ≡ waits placed' links node + times node targets =
            waits_placed placed v links node r.1 ∙ (λ j. waits (sym is j) links node + times node (sym targets_is j)) in
            let b = p.counts node in
            omega arith;
        ready = λ q. (
          λ h. ⊎_elim
              (λ l. let o = (left q).0 l in let s = (p.ready q).0 o.1 in (s.0, λ c. ⊎_elim (λ k. s.1 k) (λ e. o.0 e) (cases q c), fewer q s.2))
              (λ t. ((step_ends correct v q (steps q t.0)).1, λ c. let z = done q c in let g = less q in let pos = t.0 in absurd (omega arith), t.1))
              ((in' q).0 h),
          λ h. (in' q).1
              (⊎_elim
              (λ z. inl ((left q).1 ((λ e. h.1 (subst (Contains placed') e new_in)), (p.ready q).1 (h.0, λ c. h.1 (old_in q c), z))))
              (λ nz. let g = less q in let z : get_or waiting' q 0 ≡ 0 = h.2 in inr (positive_from _ _ _ g z nz, h.2))
              (cases_eq (get_or waiting q 0) 0)),
        );
        done = λ q c. fewer q (done q c);
        distinct = subst (IsDistinct nat_eq) (sym is) (IsDistinct-push nat_eq_equiv placed v p.distinct (not_among placed v r.1));
        within = λ q c. ⊎_elim (λ o. p.within q o) (λ e. subst (λ (n : ℕ). n ≤ length nodes) e r.0.1) (cases q c);
        next = λ place lt. placed_more placed placed' v place is lt p.next (next_ready placed waiting In v p i low);
      }

  -- there is room for the node that is ready
  pub placed_fit : (placed waiting : List ℕ) (In : ℕ → Type 0) (v : ℕ) → Placing placed waiting In → In v → length placed < length nodes + 1
  placed_fit placed waiting In v p i =
      let r = (p.ready v).0 i in
      let le : length (placed ++ v ∷ []) ≤ length nodes + 1 =
      length-le_from_distinct_below (placed ++ v ∷ []) (length nodes + 1) (IsDistinct-push nat_eq_equiv placed v p.distinct (not_among placed v r.1))
      (λ q h. ⊎_elim (λ o. let w : q ≤ length nodes = p.within q o in omega arith) (λ e. let w : v ≤ length nodes = r.0.1 in omega arith)
      (Contains-push_cases placed v q (in_from_any q (placed ++ v ∷ []) h))) in
      let len = length_push placed v in
      omega arith

  pub order_of : (placed waiting : List ℕ) (In : ℕ → Type 0) → Placing placed waiting In → ((q : ℕ) → In q → ⊥)
      → ((q : ℕ) → get_or waiting q 0 ≡ 0) → IsOrder nodes links placed
  order_of placed waiting In p none at_zero = record {
    whole = λ q n. ⊎_elim (λ c. c) (λ out. absurd (none q ((p.ready q).1 (n, out, at_zero q)))) (decide_in q placed);
    next = p.next;
  }

  -- ---- where a node still waits and none is ready, walks back go on for ever
  module _ (correct : IsLinkCorrect nodes links) (acyclic : IsAcyclic links) (placed waiting : List ℕ) (In : ℕ → Type 0)
      (p : Placing placed waiting In) (none : (q : ℕ) → In q → ⊥) (last : ℕ) (waits_on : get_or waiting last 0 ≢ 0) where
    before : (x : ℕ) → get_or waiting x 0 ≢ 0 → (s : ℕ) × (get_or waiting s 0 ≢ 0) × Data s x
    before x h =
        let w = waits_some placed links x (λ e. h (p.counts x ∙ e)) in
        (w.0, (λ z. none w.0 ((p.ready w.0).1 ((step_ends correct w.0 x w.1).0, w.2, z))), w.1)

    chain : (k : ℕ) → (x : ℕ) × (through : List ℕ) × (get_or waiting x 0 ≢ 0) × Walks Data x through last × (length through ≡ k)
    chain zero = let b = before last waits_on in (b.0, [], b.1, b.2, refl)
    chain (suc k) =
        let c = chain k in
        let b = before c.0 c.2 in
        (b.0, c.0 ∷ c.1, b.1, (b.2, c.3), let l : length c.1 ≡ k = c.4 in omega arith)

    apart : (x c : ℕ) (cs : List ℕ) → Reaches Data x c → Walks Data c cs last → AllByRecursion (λ y. nat_eq x y ≡ false) (c ∷ cs)
    apart x c [] r w = (ne_eqb x c (λ e. acyclic x (subst (Reaches Data x) (sym e) r)), tt)
    apart x c (d ∷ ds) r w =
        (ne_eqb x c (λ e. acyclic x (subst (Reaches Data x) (sym e) r)), apart x d ds (reaches_then Data x c d r w.0) w.1)

    walk_distinct : (x : ℕ) (cs : List ℕ) → Walks Data x cs last → IsDistinct nat_eq (x ∷ cs)
    unfolding IsDistinct
    walk_distinct x [] w = (tt, tt)
    walk_distinct x (c ∷ cs) w = (apart x c cs (reaches_step Data x c w.0) w.1, walk_distinct c cs w.1)

    walk_within : (x : ℕ) (cs : List ℕ) → Walks Data x cs last → (q : ℕ) → Contains (x ∷ cs) q → q ≤ length nodes
    walk_within x [] w q c = only x q (length nodes) c (step_ends correct x last w).0.1
    walk_within x (d ∷ ds) w q c =
        contains_cases x q (d ∷ ds) c (λ e. subst (λ (n : ℕ). n ≤ length nodes) e (step_ends correct x d w.0).0.1) (walk_within d ds w.1 q)

    pub stuck : ⊥
    stuck =
        let c = chain (length nodes + 1) in
        let le : length (c.0 ∷ c.1) ≤ length nodes + 1 =
        length-le_from_distinct_below (c.0 ∷ c.1) (length nodes + 1) (walk_distinct c.0 c.1 c.3)
        (λ q h. let w : q ≤ length nodes = walk_within c.0 c.1 c.3 q (in_from_any q (c.0 ∷ c.1) h) in omega arith) in
        let l : length c.1 ≡ length nodes + 1 = c.4 in
        omega arith

  -- ---- an order leaves no closed walk
  module _ (correct : IsLinkCorrect nodes links) (ids : List ℕ) (order : IsOrder nodes links ids) where
    source_before : (k q s : ℕ) → k ≤ length ids → Contains (take k ids) q → Data s q → Contains (take k ids) s
    source_before k q s le c d =
        let len : length (take k ids) ≡ k = length-take-le k ids le in
        let j : c.0 < length (take k ids) = c.1 in
        let j_in : c.0 < length ids = omega arith in
        let at : get_or ids c.0 0 ≡ q = get_or_default ids c.0 0 q j_in ∙ sym (get_or-take k ids c.0 q (omega arith)) ∙ c.2 in
        let n = (order.next c.0 j_in).may_come.sources s (subst (Data s) (sym at) d) in
        let len' : length (take c.0 ids) ≡ c.0 = length-take-le c.0 ids (omega arith) in
        let m : n.0 < length (take c.0 ids) = n.1 in
        (n.0, omega arith, get_or-take k ids n.0 s (omega arith) ∙ sym (get_or-take c.0 ids n.0 s (omega arith)) ∙ n.2)

    walk_before : (k : ℕ) → k ≤ length ids → (s q : ℕ) (through : List ℕ) → Walks Data s through q → Contains (take k ids) q → Contains (take k ids) s
    walk_before k le s q [] w c = source_before k q s le c w
    walk_before k le s q (t ∷ ts) w c = source_before k t s le (walk_before k le t q ts w.1 c) w.0

    last_step : (a b : ℕ) (through : List ℕ) → Walks Data a through b → ((c : ℕ) → Data c b → (a ≡ c) ⊎ Reaches Data a c → ⊥) → ⊥
    last_step a b [] w h = h a w (inl refl)
    last_step a b (x ∷ xs) w h =
        last_step x b xs w.1 (λ c d r. h c d (inr (⊎_elim (λ e. subst (Reaches Data a) e (reaches_step Data a x w.0)) (λ r'. reaches_after Data a x c w.0 r') r)))

    first_node : (s q : ℕ) (through : List ℕ) → Walks Data s through q → IsNode nodes s
    first_node s q [] w = (step_ends correct s q w).0
    first_node s q (t ∷ ts) w = (step_ends correct s t w.0).0

    pub order_acyclic : IsAcyclic links
    order_acyclic a r =
        let node = first_node a a r.0 r.1 in
        let at = order.whole a node in
        let k = at.0 in
        let here : get_or ids k 0 ≡ a = get_or_default ids k 0 a at.1 ∙ at.2 in
        let le : k ≤ length ids = let lt : k < length ids = at.1 in omega arith in
        let next = (order.next k at.1).may_come in
        let new : Contains (take k ids) a → ⊥ = λ c. next.is_new (subst (Contains (take k ids)) (sym here) c) in
        last_step a a r.0 r.1 (λ c d from.
        let placed = next.sources c (subst (Data c) (sym here) d) in
        new (⊎_elim (λ e. subst (Contains (take k ids)) (sym e) placed) (λ w. walk_before k le a c w.0 w.1 placed) from))

pub measure_falls : (a a' b : ℕ) → a < b → a' ≡ a + 1 → b - a' < b - a
measure_falls a a' b p q = omega arith

pub targets_within : (nodes : List NodeKind) (links : List Link) → IsLinkCorrect nodes links → (v n : ℕ) (targets : List ℕ)
    → targets ≡ near_of data_choice Forward links v → n ≡ length nodes + 1 → All (λ q. q < n) targets
targets_within nodes links correct v n targets is size k d lt =
    let c : Contains (near_of data_choice Forward links v) (get_or targets k d) =
    subst (λ (l : List ℕ). Contains l (get_or targets k d)) is (k, lt, get_or_default targets k (get_or targets k d) d lt) in
    let step = (near_leads data_choice Forward data_types links chooses_data v (get_or targets k d)).0 c in
    let h : get_or targets k d ≤ length nodes = (step_ends nodes links correct v (get_or targets k d) step).1.1 in
    omega arith

pub targets_enough : (nodes : List NodeKind) (links : List Link) (placed waiting : List ℕ) (In : ℕ → Type 0) (v : ℕ) (targets : List ℕ)
    → Placing nodes links placed waiting In → In v → targets ≡ near_of data_choice Forward links v
    → (q : ℕ) → times q targets ≤ get_or waiting q 0
targets_enough nodes links placed waiting In v targets p i is q =
    let a = waits_placed placed v links q ((p.ready v).0 i).1 in
    let b = p.counts q in
    let t : times q targets ≡ times q (near_of data_choice Forward links v) = ap (times q) is in
    omega arith
