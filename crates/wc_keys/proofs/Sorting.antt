-- Lists in a strict order, by places.
use Rattle.std.proofs.Common.{◌≡◌, ℕ, zero, suc, ◌+◌, ◌<◌, Bool, true, false, cond, List, [], ◌∷◌, length, get_or, drop, refl, sym, ap, ◌∙◌, arith}
use Rattle.std.specs.Prelude.{filter}
use Rattle.std.specs.List.Sorted.{IsPartitionedBy, IsSortedBy}
use Rattle.wc_records.specs.Marked.{IsOrder, AllAfter, IsSorted}

module _ {T : Type 0} (before : T → T → Bool) (o : IsOrder before) where
  pub after_at : (d : T) (xs : List T) (k : ℕ) (e : T) → AllAfter before d xs → k < length xs → before d (get_or xs k e) ≡ true
  after_at d [] k e h lt = absurd (omega (arith, lt))
  after_at d (x ∷ xs) zero e h lt = h.0
  after_at d (x ∷ xs) (suc k) e h lt = after_at d xs k e h.1 (omega arith)

  -- a test that an earlier item passes where a later one does
  pub parted : (test : T → Bool) → ((x y : T) → before x y ≡ true → test y ≡ true → test x ≡ true) → (xs : List T) → IsSorted before xs → IsPartitionedBy test xs
  parted test stays [] h i j e le lt is = absurd (omega (arith, lt))
  parted test stays (x ∷ xs) h zero zero e le lt is = is
  parted test stays (x ∷ xs) h zero (suc j) e le lt is = stays x (get_or xs j e) (after_at x xs j e h.0 (omega arith)) is
  parted test stays (x ∷ xs) h (suc i) zero e le lt is = absurd (omega (arith, le))
  parted test stays (x ∷ xs) h (suc i) (suc j) e le lt is = parted test stays xs h.1 i j e (omega arith) (omega arith) is

  all_later : (d e : T) (xs : List T) → before d e ≡ true → AllAfter before e xs → AllAfter before d xs
  all_later d e [] lt h = tt
  all_later d e (x ∷ xs) lt h = (o.along d e x lt h.0, all_later d e xs lt h.1)

  -- where each item comes before the next, all is in order
  pub sorted_by_neighbours : (xs : List T) → ((k : ℕ) (e : T) → suc k < length xs → before (get_or xs k e) (get_or xs (suc k) e) ≡ true) → IsSorted before xs
  sorted_by_neighbours [] h = tt
  sorted_by_neighbours (x ∷ []) h = (tt, tt)
  sorted_by_neighbours (x ∷ y ∷ xs) h =
      let rest = sorted_by_neighbours (y ∷ xs) (λ k e lt. h (suc k) e (omega arith)) in
      let first : before x y ≡ true = h 0 x (omega arith) in
      ((first, all_later x y xs first rest.0), rest)

  -- items that don't fall and differ are in order
  pub sorted_apart : (xs : List T) → IsSortedBy before xs → ((k : ℕ) (e : T) → suc k < length xs → get_or xs k e ≡ get_or xs (suc k) e → ⊥) → IsSorted before xs
  sorted_apart xs up apart = sorted_by_neighbours xs (λ k e lt. told k e lt (before (get_or xs k e) (get_or xs (suc k) e)) refl)
    where
      told : (k : ℕ) (e : T) → suc k < length xs → (b : Bool) → before (get_or xs k e) (get_or xs (suc k) e) ≡ b → before (get_or xs k e) (get_or xs (suc k) e) ≡ true
      told k e lt true is = is
      told k e lt false is =
          let next : k + 1 ≡ suc k = omega arith in
          let back : before (get_or xs (suc k) e) (get_or xs k e) ≡ false = ap (λ (n : ℕ). before (get_or xs n e) (get_or xs k e)) (sym next) ∙ up k e (omega arith) (omega arith) in
          absurd (apart k e lt (o.same (get_or xs k e) (get_or xs (suc k) e) is back))

  -- an item comes before those behind it
  pub earlier_at : (xs : List T) (i j : ℕ) (e : T) → IsSorted before xs → i < j → j < length xs → before (get_or xs i e) (get_or xs j e) ≡ true
  earlier_at [] i j e h lt within = absurd (omega (arith, within))
  earlier_at (x ∷ xs) zero zero e h lt within = absurd (omega (arith, lt))
  earlier_at (x ∷ xs) zero (suc j) e h lt within = after_at x xs j e h.0 (omega arith)
  earlier_at (x ∷ xs) (suc i) zero e h lt within = absurd (omega (arith, lt))
  earlier_at (x ∷ xs) (suc i) (suc j) e h lt within = earlier_at xs i j e h.1 (omega arith) (omega arith)

  after_filter : (test : T → Bool) (d : T) (xs : List T) → AllAfter before d xs → AllAfter before d (filter test xs)
  after_filter test d [] h = tt
  after_filter test d (x ∷ xs) h = told (test x) (after_filter test d xs h.1)
    where
      told : (b : Bool) → AllAfter before d (filter test xs) → AllAfter before d (cond b (x ∷ filter test xs) (filter test xs))
      told true rest = (h.0, rest)
      told false rest = rest

  -- what passes a test stays in order
  pub sorted_filter : (test : T → Bool) (xs : List T) → IsSorted before xs → IsSorted before (filter test xs)
  sorted_filter test [] h = tt
  sorted_filter test (x ∷ xs) h = told (test x) (sorted_filter test xs h.1)
    where
      told : (b : Bool) → IsSorted before (filter test xs) → IsSorted before (cond b (x ∷ filter test xs) (filter test xs))
      told true rest = (after_filter test x xs h.0, rest)
      told false rest = rest

pub sorted_drop : {T : Type 0} (before : T → T → Bool) (n : ℕ) (xs : List T) → IsSorted before xs → IsSorted before (drop n xs)
sorted_drop before zero xs h = h
sorted_drop before (suc n) [] h = tt
sorted_drop before (suc n) (x ∷ xs) h = sorted_drop before n xs h.1
