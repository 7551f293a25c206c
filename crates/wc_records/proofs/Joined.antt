-- Numbers that stand in order, each once, are told by which ones stand there.
use Rattle.std.proofs.Common.{◌≡◌, ℕ, suc, ◌+◌, ◌<◌, ◌≤◌, Bool, true, false, cond, List, [], ◌∷◌, ◌++◌, length, get_or, map, Option, Some, None, Result, Ok, Err, inl, inr, refl, sym, ap, ◌∙◌, arith}
use Rattle.std.specs.Prelude.{◌⊎◌, nat_lt, nat_le, ◌==◌, ◌||◌, ◌&&◌, count_by}
use Rattle.std.specs.List.{list_any}
use Rattle.std.specs.List.Sorted.{IsNonDecreasing, IsPermutation}
use Rattle.std.specs.Result.{IfOk}
use Rattle.std.proofs.lemmas.Bool.{eq-eqb, eqb-true, lt-ltb, cases_order, or_cases, or_left, or_right, and_parts, false≢true, false_from_ne_true}
use Rattle.std.proofs.lemmas.List.Folds.{list_any-append}
use Rattle.std.proofs.lemmas.List.Sums.{sum_by-cons, sum_by-append}
use Rattle.std.proofs.lemmas.List.Sorted.{list_any-IsPermutation, sum_by-IsPermutation}
use Rattle.wc_state.specs.declared.record.ProcessRecord.{ProcessRecord}
use Rattle.wc_records.specs.Records.{find_record}
use Rattle.wc_records.specs.Ascending.{AreAscending}
use Rattle.wc_records.specs.Marked.{AllAfter, IsSorted}
use Rattle.wc_records.specs.Readiness.{due_of, waits_later, is_ready, ready_at, waits_until, sooner, is_due_in, AreDues}
use Rattle.wc_records.specs.Ready.{due_by}
use Rattle.wc_records.specs.Orders.{dues_in_order}
use Rattle.wc_records.proofs.Standing.{as_number}
use Rattle.wc_records.proofs.Chosen.{chosen_sorted}
use Rattle.wc_records.proofs.Firsts.{stands, all_above}
use Rattle.wc_records.proofs.Moments.{passes, is_due, stands_chosen, stands_due, stands_ready, not_both, from_due}

-- ---- lists in order

pub sorted_same : (xs ys : List ℕ) → IsSorted nat_lt xs → IsSorted nat_lt ys → ((n : ℕ) → stands n xs ≡ stands n ys) → xs ≡ ys
sorted_same [] [] h g same = refl
sorted_same [] (y ∷ ys) h g same = absurd (false≢true (same y ∙ or_left (y == y) (stands y ys) (eq-eqb y y refl)))
sorted_same (x ∷ xs) [] h g same = absurd (false≢true (sym (same x) ∙ or_left (x == x) (stands x xs) (eq-eqb x x refl)))
sorted_same (x ∷ xs) (y ∷ ys) h g same = let others = sorted_same xs ys h.1 g.1 rest in λ i. first i ∷ others i
  where
    one : ((y == x) ≡ true) ⊎ (stands x ys ≡ true) → y ≤ x
    one (inl e) = omega (arith, eqb-true y x e)
    one (inr e) = omega (arith, all_above y x ys g.0 e)

    other : ((x == y) ≡ true) ⊎ (stands y xs ≡ true) → x ≤ y
    other (inl e) = omega (arith, eqb-true x y e)
    other (inr e) = omega (arith, all_above x y xs h.0 e)

    first : x ≡ y
    first =
        omega (
          arith,
          one (or_cases (y == x) (stands x ys) (sym (same x) ∙ or_left (x == x) (stands x xs) (eq-eqb x x refl))),
          other (or_cases (x == y) (stands y xs) (same y ∙ or_left (y == y) (stands y ys) (eq-eqb y y refl))),
        )

    behind : (z n : ℕ) (zs : List ℕ) → AllAfter nat_lt z zs → (z == n) ≡ true → stands n zs ≡ false
    behind z n zs after is = false_from_ne_true (stands n zs) (λ there. omega (arith, all_above z n zs after there, eqb-true z n is))

    rest : (n : ℕ) → stands n xs ≡ stands n ys
    rest n = by n (x == n) refl
      where
        by : (n : ℕ) (b : Bool) → (x == n) ≡ b → stands n xs ≡ stands n ys
        by n true is = behind x n xs h.0 is ∙ sym (behind y n ys g.0 (ap (λ (z : ℕ). z == n) (sym first) ∙ is))
        by n false isnt =
            ap (λ (b : Bool). b || stands n xs) (sym isnt) ∙ same n ∙ ap (λ (z : ℕ). (z == n) || stands n ys) (sym first) ∙ ap (λ (b : Bool). b || stands n ys) isnt

-- ---- how often a number stands there

abbrev times : ℕ → List ℕ → ℕ
times n xs = count_by (λ m. m == n) xs

after_none : (x : ℕ) (ys : List ℕ) → ((k d : ℕ) → k < length ys → x ≤ get_or ys k d) → times x ys ≡ 0 → AllAfter nat_lt x ys
after_none x [] le none = tt
after_none x (y ∷ ys) le none = by (y == x) refl (sum_by-cons (λ m. cond (m == x) 1 0) y ys) (λ rest. after_none x ys (λ k d lt. le (suc k) d (omega (arith, lt))) rest)
  where
    by : (b : Bool) → (y == x) ≡ b → times x (y ∷ ys) ≡ cond b 1 0 + times x ys → (times x ys ≡ 0 → AllAfter nat_lt x ys) → AllAfter nat_lt x (y ∷ ys)
    by true is sum rest = absurd (omega (arith, sum, none))
    by false isnt sum rest = (
      lt-ltb x y (by_order (cases_order x y)),
      rest (omega (arith, sum, none)),
    )
      where
        by_order : (x ≡ y) ⊎ ((x < y) ⊎ (y < x)) → x < y
        by_order (inl same) = absurd (false≢true (sym isnt ∙ eq-eqb y x (sym same)))
        by_order (inr (inl lt)) = lt
        by_order (inr (inr gt)) = absurd (omega (arith, gt, le 0 x (omega arith)))

strict : (xs : List ℕ) → IsNonDecreasing xs → ((n : ℕ) → times n xs ≤ 1) → IsSorted nat_lt xs
strict [] up once = tt
strict (x ∷ xs) up once = (
  after_none x xs (λ k d lt. up 0 (suc k) d (omega arith) (omega (arith, lt))) (omega (arith, one, once x)),
  strict xs (λ i j d le lt. up (suc i) (suc j) d (omega (arith, le)) (omega (arith, lt))) (λ n. fewer n (x == n) (sum_by-cons (λ m. cond (m == n) 1 0) x xs)),
)
  where
    one : times x (x ∷ xs) ≡ 1 + times x xs
    one = sum_by-cons (λ m. cond (m == x) 1 0) x xs ∙ ap (λ (b : Bool). cond b 1 0 + times x xs) (eq-eqb x x refl)

    fewer : (n : ℕ) (b : Bool) → times n (x ∷ xs) ≡ cond b 1 0 + times n xs → times n xs ≤ 1
    fewer n true sum = omega (arith, sum, once n)
    fewer n false sum = omega (arith, sum, once n)

sorted_times : (n : ℕ) (xs : List ℕ) → IsSorted nat_lt xs → times n xs ≤ as_number (stands n xs)
sorted_times n [] h = omega arith
sorted_times n (x ∷ xs) h = by (x == n) refl (sum_by-cons (λ m. cond (m == n) 1 0) x xs) (sorted_times n xs h.1)
  where
    by : (b : Bool) → (x == n) ≡ b → times n (x ∷ xs) ≡ cond b 1 0 + times n xs → times n xs ≤ as_number (stands n xs) → times n (x ∷ xs) ≤ as_number (b || stands n xs)
    by true is sum more =
        let none : stands n xs ≡ false = false_from_ne_true (stands n xs) (λ there. omega (arith, all_above x n xs h.0 there, eqb-true x n is)) in
        omega (arith, sum, more, ap as_number none)
    by false isnt sum more = omega (arith, sum, more)

-- ---- the processes of due moments

-- a process has one due moment
abbrev HasOneDue : ℕ → List (ℕ × ℕ) → Type 0
HasOneDue n dues = (one other : ℕ) → is_due_in dues one n ≡ true → is_due_in dues other n ≡ true → one ≡ other

comes_after : (d : ℕ × ℕ) (due n : ℕ) (dues : List (ℕ × ℕ)) → AllAfter sooner d dues → is_due_in dues due n ≡ true → sooner d (due, n) ≡ true
comes_after d due n [] h is = absurd (cc)
comes_after d due n (e ∷ dues) h is = by (or_cases ((e.0 == due) && (e.1 == n)) (is_due_in dues due n) is) (λ more. comes_after d due n dues h.1 more)
  where
    by : (((e.0 == due) && (e.1 == n)) ≡ true) ⊎ (is_due_in dues due n ≡ true) → (is_due_in dues due n ≡ true → sooner d (due, n) ≡ true) → sooner d (due, n) ≡ true
    by (inl here) rest =
        let both = and_parts (e.0 == due) (e.1 == n) here in
        ap (sooner d) (λ i. (sym (eqb-true e.0 due both.0) i, sym (eqb-true e.1 n both.1) i)) ∙ h.0
    by (inr more) rest = rest more

due_times : (now n : ℕ) (dues : List (ℕ × ℕ)) → IsSorted sooner dues → HasOneDue n dues
    → times n (map (λ (d : ℕ × ℕ). d.1) (due_by now dues)) ≤ as_number (list_any (λ (d : ℕ × ℕ). d.1 == n) (due_by now dues))
due_times now n [] h once = omega arith
due_times now n (d ∷ dues) h once =
    by_test (nat_le d.0 now)
    (due_times now n dues h.1
    (λ one other is is_too. once one other (or_right ((d.0 == one) && (d.1 == n)) (is_due_in dues one n) is) (or_right ((d.0 == other) && (d.1 == n)) (is_due_in dues other n) is_too)))
  where
    by_test : (b : Bool) → times n (map (λ (e : ℕ × ℕ). e.1) (due_by now dues)) ≤ as_number (list_any (λ (e : ℕ × ℕ). e.1 == n) (due_by now dues))
        → times n (map (λ (e : ℕ × ℕ). e.1) (cond b (d ∷ due_by now dues) (due_by now dues)))
        ≤ as_number (list_any (λ (e : ℕ × ℕ). e.1 == n) (cond b (d ∷ due_by now dues) (due_by now dues)))
    by_test false more = more
    by_test true more = by (d.1 == n) refl (sum_by-cons (λ m. cond (m == n) 1 0) d.1 (map (λ (e : ℕ × ℕ). e.1) (due_by now dues)))
      where
        by : (b : Bool) → (d.1 == n) ≡ b
            → times n (d.1 ∷ map (λ (e : ℕ × ℕ). e.1) (due_by now dues)) ≡ cond b 1 0 + times n (map (λ (e : ℕ × ℕ). e.1) (due_by now dues))
            → times n (d.1 ∷ map (λ (e : ℕ × ℕ). e.1) (due_by now dues)) ≤ as_number (b || list_any (λ (e : ℕ × ℕ). e.1 == n) (due_by now dues))
        by false isnt sum = omega (arith, sum, more)
        by true is sum = omega (arith, sum, more, ap as_number none)
          where
            none : list_any (λ (e : ℕ × ℕ). e.1 == n) (due_by now dues) ≡ false
            none =
                false_from_ne_true (list_any (λ (e : ℕ × ℕ). e.1 == n) (due_by now dues))
                (λ there.
                let s = from_due dues now n there in
                let here : is_due_in (d ∷ dues) d.0 n ≡ true = or_left ((d.0 == d.0) && (d.1 == n)) (is_due_in dues d.0 n) (ap (λ (b : Bool). b && (d.1 == n)) (eq-eqb d.0 d.0 refl) ∙ is) in
                let same : d.0 ≡ s.due = once d.0 s.due here (or_right ((d.0 == s.due) && (d.1 == n)) (is_due_in dues s.due n) s.is) in
                let after : sooner d (s.due, n) ≡ true = comes_after d s.due n dues h.0 s.is in
                let itself : sooner d (s.due, n) ≡ sooner d d = ap (sooner d) (λ i. (sym same i, sym (eqb-true d.1 n is) i)) in
                false≢true (sym (dues_in_order.not_itself d) ∙ sym itself ∙ after))

any_map : (n : ℕ) (dues : List (ℕ × ℕ)) → stands n (map (λ (d : ℕ × ℕ). d.1) dues) ≡ list_any (λ (d : ℕ × ℕ). d.1 == n) dues
any_map n [] = refl
any_map n (d ∷ dues) = ap (λ (b : Bool). (d.1 == n) || b) (any_map n dues)

-- ---- what a call gives

pub ok_both : {A E : Type 0} (P Q R : A → Type 0) (r : Result A E) → ((x : A) → P x → Q x → R x) → IfOk r P → IfOk r Q → IfOk r R
ok_both P Q R (Ok x) f p q = f x p q
ok_both P Q R (Err e) f p q = tt

-- ---- the ready ones

module _ (rs : List ProcessRecord) (dues : List (ℕ × ℕ)) (up : AreAscending 0 rs) (a : AreDues rs dues) (now : ℕ) where
  one_due : (n : ℕ) → HasOneDue n dues
  one_due n one other is is_too = by (find_record n rs) (sym (a.exact one n) ∙ is) (sym (a.exact other n) ∙ is_too)
    where
      by : (o : Option ProcessRecord) → waits_until one o ≡ true → waits_until other o ≡ true → one ≡ other
      by None h g = absurd (cc)
      by (Some r) h g =
          omega (arith, eqb-true (due_of r.part) one ((and_parts (waits_later r) (due_of r.part == one) h).1), eqb-true (due_of r.part) other ((and_parts (waits_later r) (due_of r.part == other) g).1))

  abbrev pub together : List ℕ
  together = ready_at rs 0 ++ map (λ (d : ℕ × ℕ). d.1) (due_by now dues)

  not_twice : (n : ℕ) → as_number (stands n (ready_at rs 0)) + as_number (list_any (λ (d : ℕ × ℕ). d.1 == n) (due_by now dues)) ≤ 1
  not_twice n =
      omega (arith, ap as_number (stands_chosen (is_ready rs 0) 0 rs up n), ap as_number (stands_due rs dues a now n), by (find_record n rs))
    where
      by : (o : Option ProcessRecord) → as_number (passes (is_ready rs 0) o) + as_number (passes (is_due now) o) ≤ 1
      by None = omega arith
      by (Some r) = by_test (is_ready rs 0 r) (is_due now r) (not_both rs now r)
        where
          by_test : (b c : Bool) → (b ≡ true → c ≡ false) → as_number b + as_number c ≤ 1
          by_test true c h = omega (arith, ap as_number (h refl))
          by_test false true h = omega arith
          by_test false false h = omega arith

  once : (n : ℕ) → times n together ≤ 1
  once n =
      omega (
        arith,
        sum_by-append (λ m. cond (m == n) 1 0) (ready_at rs 0) (map (λ (d : ℕ × ℕ). d.1) (due_by now dues)),
        sorted_times n (ready_at rs 0) (chosen_sorted (is_ready rs 0) 0 rs up),
        due_times now n dues a.order (one_due n),
        not_twice n,
      )

  pub joined_is : (ids : List ℕ) → IsPermutation together ids → IsNonDecreasing ids → ids ≡ ready_at rs now
  joined_is ids moved rises =
      sorted_same ids (ready_at rs now) (strict ids rises (λ n. omega (arith, sum_by-IsPermutation (λ m. cond (m == n) 1 0) together ids moved, once n)))
      (chosen_sorted (is_ready rs now) 0 rs up)
      (λ n.
      sym (list_any-IsPermutation (λ m. m == n) together ids moved)
      ∙ list_any-append (λ m. m == n) (ready_at rs 0) (map (λ (d : ℕ × ℕ). d.1) (due_by now dues))
      ∙ ap (λ (b : Bool). stands n (ready_at rs 0) || b) (any_map n (due_by now dues))
      ∙ stands_ready rs dues up a now n)
