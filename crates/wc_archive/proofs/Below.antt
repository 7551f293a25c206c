-- What lies below a root: what calls lead to, at most 16 of them, is all that calls lead to.
use Rattle.std.proofs.Common.{◌≡◌, ◌↔◌, ◌⊎◌, inl, inr, ℕ, zero, suc, ◌+◌, ◌<◌, ◌≤◌, ◌==◌, ◌&&◌, ◌||◌, Bool, true, false, Option, Some, None, List, [], ◌∷◌, length, get_or, refl, sym, ap, subst, ◌∙◌, arith}
use Rattle.std.specs.Prelude.{Contains, filter, if◌then◌else◌}
use Rattle.std.specs.List.{list_any}
use Rattle.std.proofs.lemmas.Bool.{and_from, and_parts, and_right, eq-eqb, eqb-true, ne_eqb, or_cases, or_from, or_left, or_right}
use Rattle.std.proofs.lemmas.List.Folds.{Any-from_list_any, list_any-from_Any, list_any_none}
use Rattle.wc_graph.specs.Reached.{IsNode}
use Rattle.wc_graph.specs.Rules.{IsCall}
use Rattle.wc_graph.specs.Walks.{Leads, Reaches, Walks}
use Rattle.wc_graph.specs.declared.link.Link.{Link}
use Rattle.wc_graph.specs.declared.link.LinkType.{LinkType}
use Rattle.wc_graph.specs.declared.link.LinkType.TheVariants as link
use Rattle.wc_graph.proofs.JoinedWalks.{reaches_after, reaches_step, reaches_then}
use Rattle.wc_graph.proofs.Linked.{ends_are_nodes}
use Rattle.wc_state.specs.declared.record.ProcessRecord.{ProcessRecord}
use Rattle.wc_world.specs.World.{World}
use Rattle.wc_world.specs.Consistent.{IsConsistent, Stands}
use Rattle.wc_world.specs.Fits.{call_fits, is_call_between}
use Rattle.wc_world.specs.Records.{calls, find_record, is_call_from}
use Rattle.wc_world.proofs.FoundRecords.{found_holds}
use Rattle.wc_machine.proofs.Frames.{records_below}
use Rattle.wc_subworlds.proofs.Parts.{its_number}
use Rattle.wc_verify.proofs.Wrong.{above}
use Rattle.wc_archive.specs.Closure.{closure, is_at_or_below, is_below_within, is_carried, is_in_closure, its_process, numbers_from}
use Rattle.wc_archive.specs.Marks.{AreMarks, call_types, ends_at, is_marked, is_marked_link, marked}
use Rattle.wc_archive.proofs.Marking.{walk_ends}

called : (t : LinkType) → calls t ≡ true → Contains call_types t
called link.InputCalc e = absurd (cc)
called link.InputWork e = absurd (cc)
called link.Create e = absurd (cc)
called link.Return e = absurd (cc)
called link.CallCalc e = (0, omega arith, refl)
called link.CallWork e = (1, omega arith, refl)

contained : (t : LinkType) → Contains call_types t → calls t ≡ true
contained t h = by h.0 h.1 h.2
  where
    by : (k : ℕ) → k < 2 → get_or call_types k t ≡ t → calls t ≡ true
    by zero lt e = ap calls (sym e)
    by (suc zero) lt e = ap calls (sym e)
    by (suc (suc k)) lt e = absurd (omega (arith, lt))

is_call : (t : LinkType) → calls t ≡ true → IsCall t
is_call link.InputCalc e = absurd (cc)
is_call link.InputWork e = absurd (cc)
is_call link.Create e = absurd (cc)
is_call link.Return e = absurd (cc)
is_call link.CallCalc e = tt
is_call link.CallWork e = tt

module _ (links : List Link) where
  abbrev Step : ℕ → ℕ → Type 0
  Step = Leads call_types links

  abbrev within : ℕ → ℕ → ℕ → Bool
  within n from to = is_below_within n links from to

  -- what is reached within some calls is reached
  pub from_below : (n root q : ℕ) → within n root q ≡ true → (root ≡ q) ⊎ Reaches Step root q
  from_below zero root q e = inl (eqb-true root q e)
  from_below (suc n) root q e = at (λ m h. from_below n m q h) (or_cases (root == q) (list_any (λ l. is_call_from root l && within n l.target q) links) e)
    where
      at : ((m : ℕ) → within n m q ≡ true → (m ≡ q) ⊎ Reaches Step m q) → ((root == q) ≡ true) ⊎ (list_any (λ l. is_call_from root l && within n l.target q) links ≡ true)
          → (root ≡ q) ⊎ Reaches Step root q
      at rest (inl f) = inl (eqb-true root q f)
      at rest (inr f) =
          let a = Any-from_list_any (λ l. is_call_from root l && within n l.target q) links f in
          let l : Link = a.1 in
          let both = and_parts (is_call_from root l) (within n l.target q) a.4 in
          let call = and_parts (calls l.link) (l.source == root) both.0 in
          let leads : Step root l.target = (a.0, l, a.2, a.3, (called l.link call.0, eqb-true l.source root call.1, refl)) in
          inr (on l.target leads (rest l.target both.1))
        where
          on : (m : ℕ) → Step root m → (m ≡ q) ⊎ Reaches Step m q → Reaches Step root q
          on m leads (inl e) = reaches_step Step root q (subst (Step root) e leads)
          on m leads (inr r) = reaches_after Step root m q leads r

  pub itself : (n from to : ℕ) → (from == to) ≡ true → within n from to ≡ true
  itself zero from to e = e
  itself (suc n) from to e = or_left (from == to) (list_any (λ l. is_call_from from l && within n l.target to) links) e

  -- one call first
  pub call_first : (n from to k : ℕ) (l : Link) → k < length links → get_or links k l ≡ l → is_call_from from l ≡ true → within n l.target to ≡ true → within (suc n) from to ≡ true
  call_first n from to k l lt is call rest =
      or_right (from == to) (list_any (λ x. is_call_from from x && within n x.target to) links)
      (list_any-from_Any (λ x. is_call_from from x && within n x.target to) links (k, l, lt, is, and_from (is_call_from from l) (within n l.target to) call rest))

  -- a walk is one of so many calls
  pub walk_below : (from to : ℕ) (through : List ℕ) → Walks Step from through to → within (suc (length through)) from to ≡ true
  walk_below from to [] h =
      let l : Link = h.1 in
      call_first 0 from to h.0 l h.2 h.3 (and_from (calls l.link) (l.source == from) (contained l.link h.4.0) (eq-eqb l.source from h.4.1)) (eq-eqb l.target to h.4.2)
  walk_below from to (next ∷ rest) (h, more) =
      let l : Link = h.1 in
      call_first (suc (length rest)) from to h.0 l h.2 h.3 (and_from (calls l.link) (l.source == from) (contained l.link h.4.0) (eq-eqb l.source from h.4.1))
      (subst (λ (m : ℕ). within (suc (length rest)) m to ≡ true) (sym h.4.2) (walk_below next to rest more))

module _ (w : World) (c : IsConsistent w) where
  -- a called process is there, one level below its caller
  one_below : (k : ℕ) (l : Link) (r : ProcessRecord) → k < length w.links → get_or w.links k l ≡ l → is_call_from r.node l ≡ true → find_record r.node w.records ≡ Some r
      → (s : ProcessRecord) × (find_record l.target w.records ≡ Some s) × (s.depth ≡ suc r.depth)
  one_below k l r lt is call found =
      let both = and_parts (calls l.link) (l.source == r.node) call in
      let source : l.source ≡ r.node = eqb-true l.source r.node both.1 in
      let fits : call_fits w.records l ≡ true
      = subst (λ (x : Link). IsCall x.link → call_fits w.records x ≡ true) is (c.calls k l lt) (is_call l.link both.0) in
      by (find_record l.source w.records) (find_record l.target w.records) (ap (λ (n : ℕ). find_record n w.records) source ∙ found) refl fits
    where
      by : (o p : Option ProcessRecord) → o ≡ Some r → find_record l.target w.records ≡ p → is_call_between l.label o p ≡ true
          → (s : ProcessRecord) × (find_record l.target w.records ≡ Some s) × (s.depth ≡ suc r.depth)
      by None p e f t = absurd (cc)
      by (Some q) None e f t = absurd (cc)
      by (Some q) (Some s) e f t =
          let same : q ≡ r = cc in
          let deep : s.depth ≡ suc q.depth = eqb-true s.depth (suc q.depth) (and_parts (s.depth == suc q.depth) _ t).0 in
          (s, f, deep ∙ ap (λ (x : ProcessRecord). suc x.depth) same)

  -- no more calls lead down than there are levels
  cut : (m n from to : ℕ) (r : ProcessRecord) → find_record from w.records ≡ Some r → 16 < r.depth + n → is_below_within m w.links from to ≡ true
      → is_below_within n w.links from to ≡ true
  cut zero n from to r found deep e = itself w.links n from to e
  cut (suc m) n from to r found deep e =
      at (λ k q s h d t. cut m k q to s h d t) n deep (or_cases (from == to) (list_any (λ l. is_call_from from l && is_below_within m w.links l.target to) w.links) e)
    where
      at : ((k q : ℕ) (s : ProcessRecord) → find_record q w.records ≡ Some s → 16 < s.depth + k → is_below_within m w.links q to ≡ true → is_below_within k w.links q to ≡ true)
          → (n : ℕ) → 16 < r.depth + n → ((from == to) ≡ true) ⊎ (list_any (λ l. is_call_from from l && is_below_within m w.links l.target to) w.links ≡ true)
          → is_below_within n w.links from to ≡ true
      at rest n deep (inl f) = itself w.links n from to f
      at rest zero deep (inr f) =
          let low : r.depth ≤ 16 = (found_holds (Stands w) from w.records r c.records found).not_above in
          absurd (omega (arith, deep, low))
      at rest (suc n) deep (inr f) =
          let a = Any-from_list_any (λ l. is_call_from from l && is_below_within m w.links l.target to) w.links f in
          let l : Link = a.1 in
          let both = and_parts (is_call_from from l) (is_below_within m w.links l.target to) a.4 in
          let number : r.node ≡ from = its_number from w.records r found in
          let s = one_below a.0 l r a.2 a.3 (subst (λ (k : ℕ). is_call_from k l ≡ true) (sym number) both.0) (ap (λ (k : ℕ). find_record k w.records) number ∙ found) in
          let d : s.0.depth ≡ suc r.depth = s.2 in
          call_first w.links n from to a.0 l a.2 a.3 both.0 (rest n l.target s.0 s.1 (omega (arith, d, deep)) both.1)

  module _ (root : ℕ) (r : ProcessRecord) (found : find_record root w.records ≡ Some r) where
    low : 1 ≤ r.depth
    low = (found_holds (Stands w) root w.records r c.records found).not_below

    pub below_exactly : (q : ℕ) → (is_at_or_below w.links root q ≡ true) ↔ ((root ≡ q) ⊎ Reaches (Leads call_types w.links) root q)
    below_exactly q = (from_below w.links 16 root q, to)
      where
        to : (root ≡ q) ⊎ Reaches (Leads call_types w.links) root q → is_at_or_below w.links root q ≡ true
        to (inl e) = itself w.links 16 root q (eq-eqb root q e)
        to (inr h) = cut (suc (length h.0)) 16 root q r found (omega (arith, low)) (walk_below w.links root q h.0 h.1)

    -- what a process below calls lies below
    pub called_below : (q k : ℕ) (l : Link) → k < length w.links → get_or w.links k l ≡ l → is_call_from q l ≡ true → is_at_or_below w.links root q ≡ true
        → is_at_or_below w.links root l.target ≡ true
    called_below q k l lt is call h = (below_exactly l.target).1 (inr (on ((below_exactly q).0 h)))
      where
        both : (calls l.link ≡ true) × ((l.source == q) ≡ true)
        both = and_parts (calls l.link) (l.source == q) call

        leads : Leads call_types w.links q l.target
        leads = (k, l, lt, is, (called l.link both.0, eqb-true l.source q both.1, refl))

        on : (root ≡ q) ⊎ Reaches (Leads call_types w.links) root q → Reaches (Leads call_types w.links) root l.target
        on (inl e) = reaches_step (Leads call_types w.links) root l.target (subst (λ (m : ℕ). Leads call_types w.links m l.target) (sym e) leads)
        on (inr r) = reaches_then (Leads call_types w.links) root q l.target r leads

    -- the root is a node
    pub root_is_node : IsNode w.nodes root
    root_is_node =
        let number : r.node ≡ root = its_number root w.records r found in
        let high : r.node < suc (length w.nodes) = found_holds (λ x. x.node < suc (length w.nodes)) root w.records r (records_below w.nodes w.records c.numbered) found in
        let some : 1 ≤ r.node = found_holds (λ x. 1 ≤ x.node) root w.records r (above 1 w.nodes w.records c.numbered) found in
        (omega (arith, number, some), omega (arith, number, high))

    zero_is_none : is_at_or_below w.links root 0 ≡ false
    zero_is_none = at (is_at_or_below w.links root 0) refl
      where
        no : (root ≡ 0) ⊎ Reaches (Leads call_types w.links) root 0 → ⊥
        no (inl e) = let some : 1 ≤ root = root_is_node.0 in absurd (omega (arith, some, e))
        no (inr h) = let n = walk_ends w.nodes w.links call_types c.links root 0 h.0 h.1 in let some : 1 ≤ 0 = n.0 in absurd (omega (arith, some))

        at : (b : Bool) → is_at_or_below w.links root 0 ≡ b → b ≡ false
        at true e = absurd (no ((below_exactly 0).0 e))
        at false e = refl

    -- 0 is no number of the closure
    pub zero_outside : is_in_closure w.links root 0 ≡ false
    zero_outside =
        or_from (is_at_or_below w.links root 0) (list_any (λ l. is_carried w.links root l && ((l.source == 0) || (l.target == 0))) w.links) zero_is_none
        (list_any_none (λ l. is_carried w.links root l && ((l.source == 0) || (l.target == 0))) w.links
        (λ k d lt.
        let h = ends_are_nodes w.nodes w.links c.links k d lt in
        let l : Link = get_or w.links k d in
        let s : 1 ≤ l.source = h.0.0 in
        let t : 1 ≤ l.target = h.1.0 in
        and_right (is_carried w.links root l) ((l.source == 0) || (l.target == 0))
        (or_from (l.source == 0) (l.target == 0) (ne_eqb l.source 0 (λ e. absurd (omega (arith, s, e)))) (ne_eqb l.target 0 (λ e. absurd (omega (arith, t, e)))))))

    -- the marked numbers are those of the closure
    pub marked_are : (marks : List Bool) → AreMarks (is_in_closure w.links root) (length w.nodes) marks → marked marks ≡ closure w root
    marked_are marks are =
        let size : length marks ≡ suc (length w.nodes) = let e = are.size in omega (arith, e) in
        ap (λ (n : ℕ). filter (is_marked marks) (numbers_from 0 n)) size
        ∙ (λ i. filter (λ n. are.each n i) (0 ∷ numbers_from 1 (length w.nodes)))
        ∙ ap (λ (b : Bool). if b then 0 ∷ filter (is_in_closure w.links root) (numbers_from 1 (length w.nodes)) else filter (is_in_closure w.links root) (numbers_from 1 (length w.nodes))) zero_outside

same_test : (a b : Bool) (P : Type 0) → (a ≡ true) ↔ P → (b ≡ true) ↔ P → a ≡ b
same_test true true P f g = refl
same_test true false P f g = sym (g.1 (f.0 refl))
same_test false true P f g = f.1 (g.0 refl)
same_test false false P f g = refl

-- marks of what is reached are marks of what lies below
pub below_marked : (w : World) (c : IsConsistent w) (root : ℕ) (r : ProcessRecord) → find_record root w.records ≡ Some r → (marks : List Bool) → length marks ≡ length w.nodes + 1
    → ((n : ℕ) → (is_marked marks n ≡ true) ↔ ((root ≡ n) ⊎ Reaches (Leads call_types w.links) root n)) → AreMarks (is_at_or_below w.links root) (length w.nodes) marks
below_marked w c root r found marks size h = record {
  size = size;
  each = λ n. same_test (is_marked marks n) (is_at_or_below w.links root n) ((root ≡ n) ⊎ Reaches (Leads call_types w.links) root n) (h n) (below_exactly w c root r found n);
}

-- marks of the ends of the links of what lies below, and of what lies below, are marks of the closure
pub closure_marked : (links : List Link) (root count : ℕ) (below marks : List Bool) → AreMarks (is_at_or_below links root) count below → length marks ≡ count + 1
    → ((n : ℕ) → is_marked marks n ≡ (is_marked below n || list_any (ends_at below n) links)) → AreMarks (is_in_closure links root) count marks
closure_marked links root count below marks are size h = record {
  size = size;
  each = λ n. h n ∙ (λ i. are.each n i || list_any (λ l. are.each (its_process l) i && ((l.source == n) || (l.target == n))) links);
}

-- the links of what lies below are those of marked processes
pub carried_are : (links : List Link) (root count : ℕ) (below : List Bool) → AreMarks (is_at_or_below links root) count below
    → filter (is_marked_link below) links ≡ filter (is_carried links root) links
carried_are links root count below are = λ i. filter (λ l. are.each (its_process l) i) links
