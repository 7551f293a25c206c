-- The lowest calculation that isn't as its inputs give it.
use Rattle.std.proofs.Common.{◌≡◌, ◌↔◌, ℕ, zero, suc, ◌+◌, ◌<◌, ◌≤◌, true, false, inl, inr, Option, Some, None, List, [], ◌∷◌, length, map, take, drop, get_or, slice_index, refl, sym, ap, subst, ◌∙◌, arith}
use Rattle.std.specs.Prelude.{All}
use Rattle.std.proofs.lemmas.Bool.{cases_eq}
use Rattle.std.proofs.lemmas.List.{take-append-drop, take_all}
use Rattle.std.proofs.lemmas.List.Elements.{All-append, All-cons, All-more, All-nil, All-weaker}
use Rattle.wc_graph.specs.declared.node.NodeKind.{NodeKind}
use Rattle.wc_graph.specs.declared.node.NodeKind.TheVariants as node
use Rattle.wc_semantics.specs.declared.outcomes.Parsed.{Parsed}
use Rattle.wc_state.specs.declared.record.ProcessRecord.{ProcessRecord}
use Rattle.wc_world.specs.World.{World}
use Rattle.wc_world.specs.Consistent.{IsConsistent, Stands, process_of, processes_from}
use Rattle.wc_world.specs.Records.{find_record, has_ended, is_calculation}
use Rattle.wc_world.specs.Fits.{has_output}
use Rattle.wc_world.proofs.ReachedLists.{heads, unique}
use Rattle.wc_machine.specs.Created.{GivenFor, IsGiven, IsCreatedByInputs}
use Rattle.wc_machine.proofs.AcceptedEnds.{live_without_output}
use Rattle.wc_verify.specs.Faults.{IsRight, IsWrong, IsLowestWrong}
use Rattle.wc_verify.specs.Givers.{AreLastGivers, HasOutcome, given_alone, giver}
use Rattle.wc_verify.proofs.Given.{alone_exactly, given_there, step}
use Rattle.wc_verify.proofs.Lasts.{along_lasts, last_own, may_give}

-- ---- one calculation

module _ (w : World) (c : IsConsistent w) (lasts : List ℕ) (are : AreLastGivers giver w lasts) (r : ProcessRecord) (found : find_record r.node w.records ≡ Some r) where
  given_along : (p : Parsed) → GivenFor w r.node p ↔ GivenFor w (slice_index lasts r.node) p
  given_along p = along_lasts giver may_give w c lasts are r.node r found (λ n. GivenFor w n p) (λ n. step w n p)

  module _ (q : ProcessRecord) (there : find_record (slice_index lasts r.node) w.records ≡ Some q) where
    exactly : (p : Parsed) → GivenFor w (slice_index lasts r.node) p ↔ (given_alone w q ≡ Some p)
    exactly = alone_exactly w c (slice_index lasts r.node) q there (last_own giver may_give w c lasts are r.node r found q there)

    pub given_is : IsGiven w r → HasOutcome w r (given_alone w q)
    given_is g = subst (HasOutcome w r) (sym ((exactly g.0).0 ((given_along g.0).0 g.1))) (g.2, g.3)

    is_given_by : (o : Option Parsed) → given_alone w q ≡ o → HasOutcome w r o → IsGiven w r
    is_given_by None e h = absurd h
    is_given_by (Some p) e h = (p, (given_along p).1 ((exactly p).1 e), h.0, h.1)

    pub is_given : HasOutcome w r (given_alone w q) → IsGiven w r
    is_given h = is_given_by (given_alone w q) refl h

  -- no process is there to give
  pub none_given : find_record (slice_index lasts r.node) w.records ≡ None → IsGiven w r → ⊥
  none_given none g = let there = given_there w (slice_index lasts r.node) g.0 ((given_along g.0).0 g.1) in absurd (cc (none, there.1))

-- ---- records in order

abbrev pub AreAbove : ℕ → List ProcessRecord → Type 0
AreAbove n rs = All (λ r. n ≤ r.node) rs

lower : (n : ℕ) (rs : List ProcessRecord) → AreAbove (suc n) rs → AreAbove n rs
lower n rs h = All-weaker (λ x. suc n ≤ x.node) (λ x. n ≤ x.node) (λ x le. omega arith) rs h

first_above : (n : ℕ) (k : NodeKind) (r : ProcessRecord) (rs : List ProcessRecord) → process_of r ≡ (n, k) → AreAbove (suc n) rs → AreAbove n (r ∷ rs)
first_above n k r rs h rest =
    let e : r.node ≡ n = ap (λ (p : ℕ × NodeKind). p.0) h in
    All-cons (λ x. n ≤ x.node) r rs (omega arith) (lower n rs rest)

pub above : (n : ℕ) (nodes : List NodeKind) (rs : List ProcessRecord) → map process_of rs ≡ processes_from n nodes → AreAbove n rs
above n [] [] h = All-nil (λ r. n ≤ r.node)
above n [] (r ∷ rs) h = absurd (cc)
above n (node.Data v ∷ ns) rs h = lower n rs (above (suc n) ns rs h)
above n (node.Calculation ∷ ns) [] h = All-nil (λ r. n ≤ r.node)
above n (node.Calculation ∷ ns) (r ∷ rs) h =
    let p = heads (process_of r) (n, node.Calculation) (map process_of rs) (processes_from (suc n) ns) h in
    first_above n node.Calculation r rs p.0 (above (suc n) ns rs p.1)
above n (node.Workflow ∷ ns) [] h = All-nil (λ r. n ≤ r.node)
above n (node.Workflow ∷ ns) (r ∷ rs) h =
    let p = heads (process_of r) (n, node.Workflow) (map process_of rs) (processes_from (suc n) ns) h in
    first_above n node.Workflow r rs p.0 (above (suc n) ns rs p.1)

-- records of ascending numbers
abbrev pub Rising : List ProcessRecord → Type 0
Rising [] = Unit {0}
Rising (r ∷ rs) = AreAbove (suc r.node) rs × Rising rs

rising_first : (n : ℕ) (k : NodeKind) (r : ProcessRecord) (rs : List ProcessRecord) → process_of r ≡ (n, k) → AreAbove (suc n) rs → Rising rs → Rising (r ∷ rs)
rising_first n k r rs h rest more =
    let e : r.node ≡ n = ap (λ (p : ℕ × NodeKind). p.0) h in
    (subst (λ (m : ℕ). AreAbove (suc m) rs) (sym e) rest, more)

pub rising : (n : ℕ) (nodes : List NodeKind) (rs : List ProcessRecord) → map process_of rs ≡ processes_from n nodes → Rising rs
rising n [] [] h = tt
rising n [] (r ∷ rs) h = absurd (cc)
rising n (node.Data v ∷ ns) rs h = rising (suc n) ns rs h
rising n (node.Calculation ∷ ns) [] h = tt
rising n (node.Calculation ∷ ns) (r ∷ rs) h =
    let p = heads (process_of r) (n, node.Calculation) (map process_of rs) (processes_from (suc n) ns) h in
    rising_first n node.Calculation r rs p.0 (above (suc n) ns rs p.1) (rising (suc n) ns rs p.1)
rising n (node.Workflow ∷ ns) [] h = tt
rising n (node.Workflow ∷ ns) (r ∷ rs) h =
    let p = heads (process_of r) (n, node.Workflow) (map process_of rs) (processes_from (suc n) ns) h in
    rising_first n node.Workflow r rs p.0 (above (suc n) ns rs p.1) (rising (suc n) ns rs p.1)

-- none behind a place is lower than the one there
not_below : (rs : List ProcessRecord) (i : ℕ) (d : ProcessRecord) → Rising rs → i < length rs → AreAbove (get_or rs i d).node (drop i rs)
not_below [] i d h lt = absurd (omega (arith, lt))
not_below (r ∷ rs) zero d h lt = All-cons (λ x. r.node ≤ x.node) r rs (omega arith) (lower r.node rs h.0)
not_below (r ∷ rs) (suc i) d h lt = not_below rs i d h.1 (omega arith)

-- those in front of a place are lower than the one there
pub below : (rs : List ProcessRecord) (i : ℕ) (d : ProcessRecord) → Rising rs → i < length rs → All (λ x. x.node < (get_or rs i d).node) (take i rs)
below [] i d h lt = absurd (omega (arith, lt))
below (r ∷ rs) zero d h lt = All-nil (λ x. x.node < r.node)
below (r ∷ rs) (suc i) d h lt =
    let less : i < length rs = omega arith in
    let up : suc r.node ≤ (get_or rs i d).node = h.0 i d less in
    All-cons (λ x. x.node < (get_or rs i d).node) r (take i rs) (omega arith) (below rs i d h.1 less)

-- ---- the lowest

module _ (w : World) (c : IsConsistent w) where
  all_rise : Rising w.records
  all_rise = rising 1 w.nodes w.records c.numbered

  -- what holds of each in front of a place holds of each that is lower than the one there
  front_below : (Q : ProcessRecord → Type 0) (i : ℕ) (d r : ProcessRecord) → i < length w.records → r ≡ get_or w.records i d → All Q (take i w.records)
      → All (λ q. q.node < r.node → Q q) w.records
  front_below Q i d r lt e holds =
      let front = All-weaker Q (λ q. q.node < r.node → Q q) (λ q good small. good) (take i w.records) holds in
      let up : AreAbove r.node (drop i w.records)
      = subst (λ (x : ProcessRecord). AreAbove x.node (drop i w.records)) (sym e) (not_below w.records i d all_rise lt) in
      let back = All-weaker (λ q. r.node ≤ q.node) (λ q. q.node < r.node → Q q) (λ q le small. absurd (omega (arith, le, small))) (drop i w.records) up in
      subst (All (λ q. q.node < r.node → Q q)) (take-append-drop i w.records) (All-append (λ q. q.node < r.node → Q q) (take i w.records) (drop i w.records) front back)

  first_is_lowest : (i : ℕ) (d r : ProcessRecord) → i < length w.records → r ≡ get_or w.records i d → All (IsRight w) (take i w.records) → IsWrong w r
      → IsLowestWrong w (Some r.node)
  first_is_lowest i d r lt e right is =
      let found : find_record r.node w.records ≡ Some r
      = subst (λ (x : ProcessRecord). find_record x.node w.records ≡ Some x) (sym e) (unique 1 w.nodes w.records c.numbered i d lt) in
      ((r, found, is), front_below (IsRight w) i d r lt e right)

  all_right : All (IsRight w) w.records → IsCreatedByInputs w
  all_right right = record {
    one_creator = λ i j l m a b is_l is_m same.
        elim (cases_eq i j) [ inl e ↦ e | inr ne ↦ absurd ((c.links.apart i j l m ne a b).creators (is_l, is_m, same)) ];
    live = All-weaker (Stands w) (λ r. is_calculation r.kind ≡ true → has_ended r.state ≡ false → has_output r.node w.links ≡ false)
        (λ r s calculates live. live_without_output w r s live) w.records c.records;
    ended = right;
  }

  -- the same over the items of a slice
  module _ (items : List ProcessRecord) (e : items ≡ w.records) (i : ℕ) where
    pub found_there : (d r : ProcessRecord) → i < length items → r ≡ get_or items i d → find_record r.node w.records ≡ Some r
    found_there d r lt is =
        let same : r ≡ get_or w.records i d = is ∙ ap (λ (xs : List ProcessRecord). get_or xs i d) e in
        subst (λ (x : ProcessRecord). find_record x.node w.records ≡ Some x) (sym same)
        (unique 1 w.nodes w.records c.numbered i d (subst (λ (xs : List ProcessRecord). i < length xs) e lt))

    pub lower_before : (d r : ProcessRecord) → i < length items → r ≡ get_or items i d → All (λ x. x.node < r.node) (take i items)
    lower_before d r lt is =
        subst (λ (y : ProcessRecord). All (λ x. x.node < y.node) (take i items)) (sym is)
        (below items i d (subst Rising (sym e) all_rise) lt)

    pub front_holds : (Q : ProcessRecord → Type 0) (d r : ProcessRecord) → i < length items → r ≡ get_or items i d → All Q (take i items)
        → All (λ x. x.node < r.node → Q x) w.records
    front_holds Q d r lt is holds =
        front_below Q i d r (subst (λ (xs : List ProcessRecord). i < length xs) e lt) (is ∙ ap (λ (xs : List ProcessRecord). get_or xs i d) e)
        (subst (λ (xs : List ProcessRecord). All Q (take i xs)) e holds)

    pub lowest : (d r : ProcessRecord) → i < length items → r ≡ get_or items i d → All (IsRight w) (take i items) → IsWrong w r → IsLowestWrong w (Some r.node)
    lowest d r lt is right wrong =
        first_is_lowest i d r (subst (λ (xs : List ProcessRecord). i < length xs) e lt) (is ∙ ap (λ (xs : List ProcessRecord). get_or xs i d) e)
        (subst (λ (xs : List ProcessRecord). All (IsRight w) (take i xs)) e right) wrong

    pub right_on : (d r : ProcessRecord) → i < length items → r ≡ get_or items i d → All (IsRight w) (take i items) → IsRight w r → All (IsRight w) (take (i + 1) items)
    right_on d r lt is right good = All-more (IsRight w) items i d lt right (subst (IsRight w) is good)

    pub none_wrong : length items ≤ i → All (IsRight w) (take i items) → IsLowestWrong w None
    none_wrong le right = all_right (subst (All (IsRight w)) e (subst (All (IsRight w)) (take_all i items le) right))
