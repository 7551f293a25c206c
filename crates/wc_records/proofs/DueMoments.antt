-- The due moments after one record is set.
use Rattle.std.proofs.Common.{◌≡◌, ℕ, ◌+◌, ◌<◌, ◌≤◌, Bool, true, false, cond, List, length, get_or, set, Some, inl, inr, refl, sym, ap, ◌∙◌, arith}
use Rattle.std.specs.Prelude.{if◌then◌else◌, ◌⊎◌, ◌==◌, ◌&&◌, count_by}
use Rattle.std.proofs.lemmas.Bool.{cases_eq, eq-eqb, eqb-true, ne_eqb, and_left, and_right, and_parts, and_from}
use Rattle.std.proofs.lemmas.List.Sums.{sum_by-set, count_by-le-length}
use Rattle.wc_state.specs.declared.record.ProcessRecord.{ProcessRecord}
use Rattle.wc_records.specs.Records.{find_record}
use Rattle.wc_records.specs.Ascending.{AreAscending}
use Rattle.wc_records.specs.Marked.{IsSorted, marked}
use Rattle.wc_records.specs.Readiness.{due_of, waits_later, waits_until, sooner, is_due_in, AreDues}
use Rattle.wc_records.specs.Index.{without_due, with_due}
use Rattle.wc_records.proofs.Marks.{Tests, sorted_marked}
use Rattle.wc_records.proofs.Standing.{stands_itself, stands_other, as_number, length_marked}
use Rattle.wc_records.specs.Orders.{dues_in_order}
use Rattle.wc_records.proofs.Finding.{find_other, find_set, find_at}

-- a due moment with its process is the same as another exactly where both parts are
due_tests : (d : ℕ × ℕ) → Tests (λ e. (e.0 == d.0) && (e.1 == d.1)) d
due_tests d = record {
  same = λ e is i. (eqb-true e.0 d.0 ((and_parts (e.0 == d.0) (e.1 == d.1) is).0) i, eqb-true e.1 d.1 ((and_parts (e.0 == d.0) (e.1 == d.1) is).1) i);
  itself = and_from (d.0 == d.0) (d.1 == d.1) (eq-eqb d.0 d.0 refl) (eq-eqb d.1 d.1 refl);
}

-- ---- without the due moment of a process

pub without_sorted : (r : ProcessRecord) (dues : List (ℕ × ℕ)) → IsSorted sooner dues → IsSorted sooner (without_due r dues)
without_sorted r dues h = by_test (waits_later r)
  where
    by_test : (b : Bool) → IsSorted sooner (if b then marked sooner (due_of r.part, r.node) false dues else dues)
    by_test true = sorted_marked sooner dues_in_order (due_of r.part, r.node) false dues h
    by_test false = h

pub with_sorted : (r : ProcessRecord) (dues : List (ℕ × ℕ)) → IsSorted sooner dues → IsSorted sooner (with_due r dues)
with_sorted r dues h = by_test (waits_later r)
  where
    by_test : (b : Bool) → IsSorted sooner (if b then marked sooner (due_of r.part, r.node) true dues else dues)
    by_test true = sorted_marked sooner dues_in_order (due_of r.part, r.node) true dues h
    by_test false = h

-- that of another process stays
without_other : (r : ProcessRecord) (dues : List (ℕ × ℕ)) (due n : ℕ) → (r.node == n) ≡ false → is_due_in (without_due r dues) due n ≡ is_due_in dues due n
without_other r dues due n ne = by_test (waits_later r)
  where
    by_test : (b : Bool) → is_due_in (if b then marked sooner (due_of r.part, r.node) false dues else dues) due n ≡ is_due_in dues due n
    by_test true = stands_other sooner dues_in_order (λ x. (x.0 == due) && (x.1 == n)) (due_of r.part, r.node) false dues (and_right (due_of r.part == due) (r.node == n) ne)
    by_test false = refl

with_other : (r : ProcessRecord) (dues : List (ℕ × ℕ)) (due n : ℕ) → ((due_of r.part == due) && (r.node == n)) ≡ false → is_due_in (with_due r dues) due n ≡ is_due_in dues due n
with_other r dues due n ne = by_test (waits_later r)
  where
    by_test : (b : Bool) → is_due_in (if b then marked sooner (due_of r.part, r.node) true dues else dues) due n ≡ is_due_in dues due n
    by_test true = stands_other sooner dues_in_order (λ x. (x.0 == due) && (x.1 == n)) (due_of r.part, r.node) true dues ne
    by_test false = refl

-- its own is gone
without_itself : (r : ProcessRecord) (dues : List (ℕ × ℕ)) (due : ℕ) → IsSorted sooner dues → is_due_in dues due r.node ≡ waits_until due (Some r)
    → is_due_in (without_due r dues) due r.node ≡ false
without_itself r dues due h is = by_test (waits_later r) refl (cases_eq (due_of r.part) due)
  where
    by_test : (b : Bool) → waits_later r ≡ b → (due_of r.part ≡ due) ⊎ (due_of r.part ≡ due → ⊥)
        → is_due_in (if b then marked sooner (due_of r.part, r.node) false dues else dues) due r.node ≡ false
    by_test true _ (inl same) =
        ap (λ d. is_due_in (marked sooner (due_of r.part, r.node) false dues) d r.node) (sym same)
        ∙ stands_itself sooner dues_in_order (λ x. (x.0 == due_of r.part) && (x.1 == r.node)) (due_of r.part, r.node) (due_tests (due_of r.part, r.node)) false dues h
    by_test true e (inr other) =
        let isnt : (due_of r.part == due) ≡ false = ne_eqb (due_of r.part) due other in
        stands_other sooner dues_in_order (λ x. (x.0 == due) && (x.1 == r.node)) (due_of r.part, r.node) false dues (and_left (due_of r.part == due) (r.node == r.node) isnt)
        ∙ is ∙ and_right (waits_later r) (due_of r.part == due) isnt
    by_test false e _ = is ∙ and_left (waits_later r) (due_of r.part == due) e

with_itself : (s : ProcessRecord) (dues : List (ℕ × ℕ)) (due : ℕ) → IsSorted sooner dues → is_due_in dues due s.node ≡ false
    → is_due_in (with_due s dues) due s.node ≡ waits_until due (Some s)
with_itself s dues due h isnt = by_test (waits_later s) (cases_eq (due_of s.part) due)
  where
    by_test : (b : Bool) → (due_of s.part ≡ due) ⊎ (due_of s.part ≡ due → ⊥)
        → is_due_in (if b then marked sooner (due_of s.part, s.node) true dues else dues) due s.node ≡ b && (due_of s.part == due)
    by_test true (inl same) =
        ap (λ d. is_due_in (marked sooner (due_of s.part, s.node) true dues) d s.node) (sym same)
        ∙ stands_itself sooner dues_in_order (λ x. (x.0 == due_of s.part) && (x.1 == s.node)) (due_of s.part, s.node) (due_tests (due_of s.part, s.node)) true dues h
        ∙ sym (eq-eqb (due_of s.part) due same)
    by_test true (inr other) =
        let no_due : (due_of s.part == due) ≡ false = ne_eqb (due_of s.part) due other in
        stands_other sooner dues_in_order (λ x. (x.0 == due) && (x.1 == s.node)) (due_of s.part, s.node) true dues (and_left (due_of s.part == due) (s.node == s.node) no_due)
        ∙ isnt ∙ sym no_due
    by_test false _ = isnt

-- ---- how many there are

pub without_length : (r : ProcessRecord) (dues : List (ℕ × ℕ)) → IsSorted sooner dues → is_due_in dues (due_of r.part) r.node ≡ waits_until (due_of r.part) (Some r)
    → length (without_due r dues) + as_number (waits_later r) ≡ length dues
without_length r dues h is = by_test (waits_later r) refl
  where
    by_test : (b : Bool) → waits_later r ≡ b → length (if b then marked sooner (due_of r.part, r.node) false dues else dues) + as_number b ≡ length dues
    by_test true e =
        let there : is_due_in dues (due_of r.part) r.node ≡ true = is ∙ ap (λ b. b && (due_of r.part == due_of r.part)) e ∙ eq-eqb (due_of r.part) (due_of r.part) refl in
        let one : as_number (is_due_in dues (due_of r.part) r.node) ≡ 1 = ap as_number there in
        omega (arith, one, length_marked sooner dues_in_order (λ x. (x.0 == due_of r.part) && (x.1 == r.node)) (due_of r.part, r.node) (due_tests (due_of r.part, r.node)) false dues h)
    by_test false e = omega arith

pub with_length : (s : ProcessRecord) (dues : List (ℕ × ℕ)) → IsSorted sooner dues → is_due_in dues (due_of s.part) s.node ≡ false
    → length (with_due s dues) ≡ length dues + as_number (waits_later s)
with_length s dues h isnt = by_test (waits_later s)
  where
    by_test : (b : Bool) → length (if b then marked sooner (due_of s.part, s.node) true dues else dues) ≡ length dues + as_number b
    by_test true =
        let nothing : as_number (is_due_in dues (due_of s.part) s.node) ≡ 0 = ap as_number isnt in
        omega (arith, nothing, length_marked sooner dues_in_order (λ x. (x.0 == due_of s.part) && (x.1 == s.node)) (due_of s.part, s.node) (due_tests (due_of s.part, s.node)) true dues h)
    by_test false = omega arith

pub one_if : (b : Bool) → cond b 1 0 ≡ as_number b
one_if true = refl
one_if false = refl

-- ---- one record set

-- what is known of the due moments that stand there in between
found_due : (rs : List ProcessRecord) (dues : List (ℕ × ℕ)) (i : ℕ) (r : ProcessRecord) (due : ℕ) → AreAscending 0 rs → AreDues rs dues → i < length rs → r ≡ get_or rs i r
    → is_due_in dues due r.node ≡ waits_until due (Some r)
found_due rs dues i r due up a lt read = a.exact due r.node ∙ ap (waits_until due) (find_at 0 rs i r up lt read)

pub without_short : (rs : List ProcessRecord) (dues : List (ℕ × ℕ)) (i : ℕ) (r : ProcessRecord) → AreAscending 0 rs → AreDues rs dues → i < length rs → r ≡ get_or rs i r
    → length (without_due r dues) ≤ length rs
without_short rs dues i r up a lt read =
    omega (arith, without_length r dues a.order (found_due rs dues i r (due_of r.part) up a lt read), a.count, count_by-le-length waits_later rs)

pub dues_after : (rs : List ProcessRecord) (dues : List (ℕ × ℕ)) (i : ℕ) (r s : ProcessRecord) → AreAscending 0 rs → AreDues rs dues → i < length rs → r ≡ get_or rs i r
    → s.node ≡ r.node → AreDues (set rs i s) (with_due s (without_due r dues))
dues_after rs dues i r s up a lt read same = record {
  order = with_sorted s (without_due r dues) (without_sorted r dues a.order);
  exact = exact;
  count = count;
}
  where
    there : s.node ≡ (get_or rs i r).node
    there = same ∙ ap (λ (x : ProcessRecord). x.node) read

    gone : (due : ℕ) → is_due_in (without_due r dues) due s.node ≡ false
    gone due = ap (is_due_in (without_due r dues) due) same ∙ without_itself r dues due a.order (found_due rs dues i r due up a lt read)

    exact : (due n : ℕ) → is_due_in (with_due s (without_due r dues)) due n ≡ waits_until due (find_record n (set rs i s))
    exact due n = elim (cases_eq n s.node) [
      | inl here ↦
          ap (is_due_in (with_due s (without_due r dues)) due) here
          ∙ with_itself s (without_due r dues) due (without_sorted r dues a.order) (gone due)
          ∙ ap (waits_until due) (sym (ap (λ m. find_record m (set rs i s)) here ∙ find_set 0 rs i s r up lt there))
      | inr other ↦
          let one : (s.node == n) ≡ false = ne_eqb s.node n (λ e. other (sym e)) in
          let two : (r.node == n) ≡ false = ne_eqb r.node n (λ e. other (sym e ∙ sym same)) in
          with_other s (without_due r dues) due n (and_right (due_of s.part == due) (s.node == n) one)
          ∙ without_other r dues due n two ∙ a.exact due n
          ∙ ap (waits_until due) (sym (find_other n rs i s r lt there other))
    ]

    count : length (with_due s (without_due r dues)) ≡ count_by waits_later (set rs i s)
    count =
        let one = without_length r dues a.order (found_due rs dues i r (due_of r.part) up a lt read) in
        let two = with_length s (without_due r dues) (without_sorted r dues a.order) (gone (due_of s.part)) in
        let sum = sum_by-set (λ (x : ProcessRecord). cond (waits_later x) 1 0) rs i s r lt in
        let old : cond (waits_later (get_or rs i r)) 1 0 ≡ as_number (waits_later r) = ap (λ (x : ProcessRecord). cond (waits_later x) 1 0) (sym read) ∙ one_if (waits_later r) in
        omega (arith, one, two, sum, old, one_if (waits_later s), a.count)
