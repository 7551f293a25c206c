-- Items put one after another, from the last on, into the gap of a list in order.
use Rattle.std.proofs.Common.{◌≡◌, ℕ, zero, suc, ◌+◌, ◌-◌, ◌<◌, ◌≤◌, Bool, true, false, List, ◌++◌, length, get_or, take, ◌⊎◌, inl, inr, ⊎_elim, refl, sym, ap, ◌∙◌, subst, arith}
use Rattle.std.specs.List.{insert}
use Rattle.std.proofs.lemmas.Bool.{cases_order}
use Rattle.std.proofs.lemmas.List.{get_or-take, get_or_append_left, length-append, length-take-le, get_or_default, same_lists}
use Rattle.std.proofs.lemmas.List.Edits.{length-insert, get_or-insert_below, get_or-insert_at, get_or-insert_above}
use Rattle.wc_records.specs.Marked.{IsOrder, IsSorted, IsPlace}
use Rattle.wc_keys.specs.Gaps.{HasGap, PutsInGap, NoneBefore}
use Rattle.wc_keys.proofs.Sorting.{earlier_at, sorted_by_neighbours}

below_or : (k n : ℕ) → (k < n) ⊎ (n ≤ k)
below_or k n = ⊎_elim (λ (e : k ≡ n). inr (omega (arith, e))) (λ rest. ⊎_elim (λ (lt : k < n). inl lt) (λ (gt : n < k). inr (omega (arith, gt))) rest) (cases_order k n)

-- all items, with the gap behind them
pub gap_behind : {T : Type 0} (all more : List T) → HasGap (all ++ more) all (length all) (length more)
gap_behind all more = record {
  len = length-append all more;
  within = omega arith;
  front = λ k e lt. get_or_append_left all more e k lt;
  back = λ k e le lt. absurd (omega (arith, le, lt));
}

-- no places are left
pub no_gap : {T : Type 0} (spread all : List T) (at : ℕ) → HasGap spread all at 0 → spread ≡ all
no_gap {T} spread all at h = same_lists spread all (omega (arith, h.len)) (λ k d lt. ⊎_elim
    (λ (below : k < at). h.front k d below)
    (λ (from : at ≤ k).
    let same : k + 0 ≡ k = omega arith in
    ap (λ (n : ℕ). get_or spread n d) (sym same) ∙ h.back k d from (omega (arith, h.len, lt)))
    (below_or k at))

module _ {T : Type 0} (before : T → T → Bool) (o : IsOrder before) where
  -- what stands in front of the gap is in order
  pub front_sorted : (spread all : List T) (at gap : ℕ) → HasGap spread all at gap → IsSorted before all → IsSorted before (take at spread)
  front_sorted spread all at gap h up =
      let few : at ≤ length spread = omega (arith, h.len, h.within) in
      let count : length (take at spread) ≡ at = length-take-le at spread few in
      sorted_by_neighbours before o (take at spread) (λ k e lt.
      let one : get_or (take at spread) k e ≡ get_or all k e = get_or-take at spread k e (omega (arith, lt, count)) ∙ h.front k e (omega (arith, lt, count)) in
      let other : get_or (take at spread) (suc k) e ≡ get_or all (suc k) e = get_or-take at spread (suc k) e (omega (arith, lt, count)) ∙ h.front (suc k) e (omega (arith, lt, count)) in
      (λ i. before (one i) (other i)) ∙ earlier_at before o all k (suc k) e up (omega arith) (omega (arith, lt, count, h.within)))

  module _ (old new all items : List T) (at to gap left : ℕ) (d : T) (one : gap ≡ left + 1) (h : HasGap old all at gap) (p : IsPlace before d (take at old) to)
      (none : NoneBefore before all at items gap) (is : get_or items left d ≡ d) (within : left < length items) where
    count : length (take at old) ≡ at
    count = length-take-le at old (omega (arith, h.len, h.within))

    up_to : to ≤ at
    up_to = omega (arith, count, p.within)

    -- its place in front of the gap is its place among all
    pub place : IsPlace before d all to
    place = record {
      within = omega (arith, up_to, h.within);
      front = λ k x lt.
          ap (λ (y : T). before y d) (sym (get_or-take at old k x (omega (arith, lt, up_to)) ∙ h.front k x (omega (arith, lt, up_to)))) ∙ p.front k x lt;
      back = λ k x le lt. ⊎_elim
          (λ (below : k < at).
          ap (λ (y : T). before y d) (sym (get_or-take at old k x below ∙ h.front k x below)) ∙ p.back k x le (omega (arith, below, count)))
          (λ (from : at ≤ k). ap (before (get_or all k x)) (sym is) ∙ none k left x d from lt (omega (arith, one)))
          (below_or k at);
    }

    module _ (puts : PutsInGap old new at to gap d) where
      pub put_gap : HasGap new (insert all to d) to left
      put_gap =
          let more : length (insert all to d) ≡ length all + 1 = length-insert all to d place.within in
          record {
            len = omega (arith, puts.len, h.len, more, one);
            within = omega (arith, more, place.within);
            front = λ k e lt. puts.front k e lt ∙ h.front k e (omega (arith, lt, up_to)) ∙ sym (get_or-insert_below all to d e k lt place.within);
            back = λ k e le lt. behind k e le lt more;
          }
        where
          at_place : (e : T) → get_or new (to + left) e ≡ d
          at_place e = let last : to + (gap - 1) ≡ to + left = omega (arith, one) in ap (λ (n : ℕ). get_or new n e) (sym last) ∙ puts.item e

          next : (k : ℕ) (e : T) → to ≤ k → k < length all → get_or new (k + gap) e ≡ get_or all k e
          next k e le lt = ⊎_elim
              (λ (below : k < at). puts.moved k e le below ∙ h.front k e below)
              (λ (from : at ≤ k). puts.back (k + gap) e (omega (arith, from)) ∙ h.back k e from lt)
              (below_or k at)

          behind : (k : ℕ) (e : T) → to ≤ k → k < length (insert all to d) → length (insert all to d) ≡ length all + 1 → get_or new (k + left) e ≡ get_or (insert all to d) k e
          behind zero e le lt more = let first : to ≡ 0 = omega (arith, le) in
              subst (λ (n : ℕ). get_or new (n + left) e ≡ get_or (insert all to d) n e) first (at_place e ∙ sym (get_or-insert_at all to d e place.within))
          behind (suc k) e le lt more = ⊎_elim
              (λ (same : to ≡ suc k). subst (λ (n : ℕ). get_or new (n + left) e ≡ get_or (insert all to d) n e) same (at_place e ∙ sym (get_or-insert_at all to d e place.within)))
              (λ rest. ⊎_elim
              (λ (before_it : to < suc k).
              let at_new : suc k + left ≡ k + gap = omega (arith, one) in
              let at_all : k + 1 ≡ suc k = omega arith in
              ap (λ (n : ℕ). get_or new n e) at_new ∙ next k e (omega (arith, before_it)) (omega (arith, lt, more))
              ∙ sym (get_or-insert_above all to d e k (omega (arith, before_it)) place.within) ∙ ap (λ (n : ℕ). get_or (insert all to d) n e) at_all)
              (λ (after_it : suc k < to). absurd (omega (arith, after_it, le)))
              rest)
              (cases_order to (suc k))

      -- the items that are left come before all that were put in
      pub put_none : IsSorted before items → NoneBefore before (insert all to d) to items left
      put_none up = λ k j x y le lt few. ⊎_elim
          (λ (same : to ≡ k).
          subst (λ (n : ℕ). before (get_or (insert all to d) n x) (get_or items j y) ≡ false) same
          (ap (λ (z : T). before z (get_or items j y)) (get_or-insert_at all to d x place.within) ∙ not_item j y few))
          (λ rest. ⊎_elim (λ (before_it : to < k). later k j x y before_it lt few) (λ (after_it : k < to). absurd (omega (arith, after_it, le))) rest)
          (cases_order to k)
        where
          earlier_item : (j : ℕ) (y : T) → j < left → before (get_or items j y) d ≡ true
          earlier_item j y few =
              ap (before (get_or items j y)) (sym (get_or_default items left y d within ∙ is)) ∙ earlier_at before o items j left y up few within

          not_item : (j : ℕ) (y : T) → j < left → before d (get_or items j y) ≡ false
          not_item j y few = o.one_way (get_or items j y) d (earlier_item j y few)

          by_test : (x y : T) (b : Bool) → before x y ≡ b → before x d ≡ false → before y d ≡ true → before x y ≡ false
          by_test x y false at other lt = at
          by_test x y true at other lt = absurd (let there : before x d ≡ true = o.along x y d at lt in cc)

          later : (k j : ℕ) (x y : T) → to < k → k < length (insert all to d) → j < left → before (get_or (insert all to d) k x) (get_or items j y) ≡ false
          later zero j x y gt lt few = absurd (omega (arith, gt))
          later (suc k) j x y gt lt few =
              let more : length (insert all to d) ≡ length all + 1 = length-insert all to d place.within in
              let next : k + 1 ≡ suc k = omega arith in
              let at_all : get_or (insert all to d) (suc k) x ≡ get_or all k x = ap (λ (n : ℕ). get_or (insert all to d) n x) (sym next) ∙ get_or-insert_above all to d x k (omega (arith, gt)) place.within in
              ap (λ (z : T). before z (get_or items j y)) at_all
              ∙ by_test (get_or all k x) (get_or items j y) (before (get_or all k x) (get_or items j y)) refl (place.back k x (omega (arith, gt)) (omega (arith, lt, more))) (earlier_item j y few)
