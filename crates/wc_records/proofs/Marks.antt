-- Lists in a strict order, with one item put in or taken out.
use Rattle.std.proofs.Common.{◌≡◌, ℕ, zero, suc, ◌<◌, Bool, true, false, List, [], ◌∷◌, length, get_or, refl, sym, ap, ◌∙◌, subst, arith}
use Rattle.std.specs.Prelude.{if◌then◌else◌, slice_get, not}
use Rattle.std.specs.List.{insert, remove}
use Rattle.std.proofs.lemmas.Bool.{and_parts}
use mathlib.Core.Bool.{beq}
use Rattle.std.specs.List.Sorted.{IsPartitionedBy}
use Rattle.wc_records.specs.Marked.{IsOrder, is_same, AllAfter, IsSorted, if_wanted, marked, IsPlace, is_item}

-- ---- all after

all_later : {T : Type 0} (before : T → T → Bool) (o : IsOrder before) (d e : T) (xs : List T) → before d e ≡ true → AllAfter before e xs → AllAfter before d xs
all_later before o d e [] lt h = tt
all_later before o d e (x ∷ xs) lt h = (o.along d e x lt h.0, all_later before o d e xs lt h.1)

after_if_wanted : {T : Type 0} (before : T → T → Bool) (d e : T) (w : Bool) (xs : List T) → before e d ≡ true → AllAfter before e xs → AllAfter before e (if_wanted d w xs)
after_if_wanted before d e true xs lt h = (lt, h)
after_if_wanted before d e false xs lt h = h

sorted_if_wanted : {T : Type 0} (before : T → T → Bool) (d : T) (w : Bool) (xs : List T) → AllAfter before d xs → IsSorted before xs → IsSorted before (if_wanted d w xs)
sorted_if_wanted before d true xs lt h = (lt, h)
sorted_if_wanted before d false xs lt h = h

after_marked : {T : Type 0} (before : T → T → Bool) (d e : T) (w : Bool) (xs : List T) → before e d ≡ true → AllAfter before e xs → AllAfter before e (marked before d w xs)
after_marked before d e w [] lt h = after_if_wanted before d e w [] lt tt
after_marked before d e w (x ∷ xs) lt h = by_tests (before x d) (before d x) (after_marked before d e w xs lt h.1)
  where
    by_tests : (a b : Bool) → AllAfter before e (marked before d w xs)
        → AllAfter before e (if a then x ∷ marked before d w xs else (if b then if_wanted d w (x ∷ xs) else if_wanted d w xs))
    by_tests true b more = (h.0, more)
    by_tests false true more = after_if_wanted before d e w (x ∷ xs) lt h
    by_tests false false more = after_if_wanted before d e w xs lt h.1

pub sorted_marked : {T : Type 0} (before : T → T → Bool) (o : IsOrder before) (d : T) (w : Bool) (xs : List T) → IsSorted before xs → IsSorted before (marked before d w xs)
sorted_marked before o d w [] h = sorted_if_wanted before d w [] tt tt
sorted_marked {T} before o d w (x ∷ xs) h = by_tests (before x d) (before d x) refl refl (sorted_marked before o d w xs h.1)
  where
    by_tests : (a b : Bool) → before x d ≡ a → before d x ≡ b → IsSorted before (marked before d w xs)
        → IsSorted before (if a then x ∷ marked before d w xs else (if b then if_wanted d w (x ∷ xs) else if_wanted d w xs))
    by_tests true b is _ more = (after_marked before d x w xs is h.0, more)
    by_tests false true _ is more = sorted_if_wanted before d w (x ∷ xs) (is, all_later before o d x xs is h.0) h
    by_tests false false one other more =
        let e : x ≡ d = o.same x d one other in
        sorted_if_wanted before d w xs (subst (λ (y : T). AllAfter before y xs) e h.0) h.1

-- ---- the place of an item

-- each item at a place passes
after_at : {T : Type 0} (before : T → T → Bool) (d : T) (xs : List T) (k : ℕ) (e : T) → AllAfter before d xs → k < length xs → before d (get_or xs k e) ≡ true
after_at before d [] k e h lt = absurd (omega (arith, lt))
after_at before d (x ∷ xs) zero e h lt = h.0
after_at before d (x ∷ xs) (suc k) e h lt = after_at before d xs k e h.1 (omega arith)

pub sorted_is_parted : {T : Type 0} (before : T → T → Bool) (o : IsOrder before) (d : T) (xs : List T) → IsSorted before xs → IsPartitionedBy (λ x. before x d) xs
sorted_is_parted before o d [] h i j e le lt is = absurd (omega (arith, lt))
sorted_is_parted before o d (x ∷ xs) h zero zero e le lt is = is
sorted_is_parted before o d (x ∷ xs) h zero (suc j) e le lt is = o.along x (get_or xs j e) d (after_at before x xs j e h.0 (omega arith)) is
sorted_is_parted before o d (x ∷ xs) h (suc i) zero e le lt is = absurd (omega (arith, le))
sorted_is_parted before o d (x ∷ xs) h (suc i) (suc j) e le lt is = sorted_is_parted before o d xs h.1 i j e (omega arith) (omega arith) is

place_tail : {T : Type 0} (before : T → T → Bool) (d x : T) (xs : List T) (i : ℕ) → IsPlace before d (x ∷ xs) (suc i) → IsPlace before d xs i
place_tail before d x xs i h = record {
  within = omega (arith, h.within);
  front = λ k e lt. h.front (suc k) e (omega arith);
  back = λ k e le lt. h.back (suc k) e (omega arith) (omega arith);
}

-- an item is the same as another exactly where the test says so
pub record Tests {T : Type 0} (test : T → Bool) (d : T) : Type 0 where
  pub same : (x : T) → test x ≡ true → x ≡ d
  pub itself : test d ≡ true

-- neither of two items comes before the other exactly where they are the same
pub same_tests : {T : Type 0} (before : T → T → Bool) (o : IsOrder before) (d : T) → Tests (is_same before d) d
same_tests before o d = record {
  same = λ x is. let ps = and_parts (not (before d x)) (not (before x d)) is in
      o.same x d (not_true (before x d) ps.1) (not_true (before d x) ps.0);
  itself = rw (o.not_itself d) refl;
}
  where
    not_true : (b : Bool) → not b ≡ true → b ≡ false
    not_true true h = absurd (cc)
    not_true false h = refl

-- what stands at the place isn't the item: nothing is taken out, or the item is put in
pub marked_absent : {T : Type 0} (before : T → T → Bool) (o : IsOrder before) (test : T → Bool) (d : T) (ts : Tests test d) (xs : List T) (i : ℕ) → IsPlace before d xs i
    → is_item test (slice_get xs i) ≡ false → (w : Bool) → (if w then insert xs i d else xs) ≡ marked before d w xs
marked_absent before o test d ts [] zero h is true = refl
marked_absent before o test d ts [] zero h is false = refl
marked_absent before o test d ts [] (suc i) h is w = absurd (omega (arith, h.within))
marked_absent before o test d ts (x ∷ xs) zero h is w = by_tests (before x d) (before d x) refl refl w
  where
    by_tests : (a b : Bool) → before x d ≡ a → before d x ≡ b → (w : Bool)
        → (if w then insert (x ∷ xs) zero d else x ∷ xs) ≡ (if a then x ∷ marked before d w xs else (if b then if_wanted d w (x ∷ xs) else if_wanted d w xs))
    by_tests true b at _ w = absurd (let missing : before x d ≡ false = h.back 0 x (omega arith) (omega arith) in cc)
    by_tests false true _ _ true = refl
    by_tests false true _ _ false = refl
    by_tests false false one other w =
        absurd (let e : x ≡ d = o.same x d one other in let there : test x ≡ true = ap test e ∙ ts.itself in cc)
marked_absent before o test d ts (x ∷ xs) (suc i) h is w =
    let first : before x d ≡ true = h.front 0 x (omega arith) in
    rw first (front_kept w ∙ ap (λ ys. x ∷ ys) (marked_absent before o test d ts xs i (place_tail before d x xs i h) is w))
  where
    front_kept : (w : Bool) → (if w then insert (x ∷ xs) (suc i) d else x ∷ xs) ≡ x ∷ (if w then insert xs i d else xs)
    front_kept true = refl
    front_kept false = refl

-- the item stands at the place: it is taken out, or nothing is put in
pub marked_present : {T : Type 0} (before : T → T → Bool) (o : IsOrder before) (test : T → Bool) (d : T) (ts : Tests test d) (xs : List T) (i : ℕ) → IsPlace before d xs i
    → is_item test (slice_get xs i) ≡ true → (w : Bool) → (if w then xs else remove xs i) ≡ marked before d w xs
marked_present before o test d ts [] zero h is w = absurd (cc)
marked_present before o test d ts [] (suc i) h is w = absurd (omega (arith, h.within))
marked_present {T} before o test d ts (x ∷ xs) zero h is w =
    let e : x ≡ d = ts.same x is in
    let one : before x d ≡ false = h.back 0 x (omega arith) (omega arith) in
    let other : before d x ≡ false = ap (λ (y : T). before y x) (sym e) ∙ o.not_itself x in
    rw (one, other) (by_wanted w e)
  where
    by_wanted : (w : Bool) → x ≡ d → (if w then x ∷ xs else remove (x ∷ xs) zero) ≡ if_wanted d w xs
    by_wanted true e = ap (λ (y : T). y ∷ xs) e
    by_wanted false e = refl
marked_present before o test d ts (x ∷ xs) (suc i) h is w =
    let first : before x d ≡ true = h.front 0 x (omega arith) in
    rw first (front_kept w ∙ ap (λ ys. x ∷ ys) (marked_present before o test d ts xs i (place_tail before d x xs i h) is w))
  where
    front_kept : (w : Bool) → (if w then x ∷ xs else remove (x ∷ xs) (suc i)) ≡ x ∷ (if w then xs else remove xs i)
    front_kept true = refl
    front_kept false = refl

-- ---- what a call of `mark` leaves

same_from_beq : (a b : Bool) → beq a b ≡ true → a ≡ b
same_from_beq true true h = refl
same_from_beq true false h = absurd (cc)
same_from_beq false true h = absurd (cc)
same_from_beq false false h = refl

unlike : (a b : Bool) → beq a b ≡ false → b ≡ not a
unlike true true h = absurd (cc)
unlike true false h = refl
unlike false true h = refl
unlike false false h = absurd (cc)

pub left_alone : {T : Type 0} (before : T → T → Bool) (o : IsOrder before) (test : T → Bool) (d : T) (ts : Tests test d) (xs : List T) (i : ℕ) → IsPlace before d xs i
    → (there wanted : Bool) → there ≡ is_item test (slice_get xs i) → beq there wanted ≡ true → xs ≡ marked before d wanted xs
left_alone before o test d ts xs i h true true is _ = marked_present before o test d ts xs i h (sym is) true
left_alone before o test d ts xs i h true false is e = absurd (cc)
left_alone before o test d ts xs i h false true is e = absurd (cc)
left_alone before o test d ts xs i h false false is _ = marked_absent before o test d ts xs i h (sym is) false

pub put_in : {T : Type 0} (before : T → T → Bool) (o : IsOrder before) (test : T → Bool) (d : T) (ts : Tests test d) (xs : List T) (i : ℕ) → IsPlace before d xs i
    → (there wanted : Bool) → there ≡ is_item test (slice_get xs i) → beq there wanted ≡ false → wanted ≡ true → insert xs i d ≡ marked before d wanted xs
put_in before o test d ts xs i h true true is e w = absurd (cc)
put_in before o test d ts xs i h true false is e w = absurd (cc)
put_in before o test d ts xs i h false true is _ w = marked_absent before o test d ts xs i h (sym is) true
put_in before o test d ts xs i h false false is e w = absurd (cc)

pub taken_out : {T : Type 0} (before : T → T → Bool) (o : IsOrder before) (test : T → Bool) (d : T) (ts : Tests test d) (xs : List T) (i : ℕ) → IsPlace before d xs i
    → (there wanted : Bool) → there ≡ is_item test (slice_get xs i) → beq there wanted ≡ false → wanted ≡ false → remove xs i ≡ marked before d wanted xs
taken_out before o test d ts xs i h true true is e w = absurd (cc)
taken_out before o test d ts xs i h true false is _ w = marked_present before o test d ts xs i h (sym is) false
taken_out before o test d ts xs i h false true is e w = absurd (cc)
taken_out before o test d ts xs i h false false is e w = absurd (cc)

-- an item stands at a place of the list
pub item_within : {T : Type 0} (test : T → Bool) (xs : List T) (i : ℕ) (there wanted : Bool) → there ≡ is_item test (slice_get xs i) → beq there wanted ≡ false → wanted ≡ false
    → i < length xs
item_within test [] zero there wanted is e w = absurd (let b : wanted ≡ not there = unlike there wanted e in cc)
item_within test [] (suc i) there wanted is e w = absurd (let b : wanted ≡ not there = unlike there wanted e in cc)
item_within test (x ∷ xs) zero there wanted is e w = omega arith
item_within test (x ∷ xs) (suc i) there wanted is e w = let more = item_within test xs i there wanted is e w in omega (arith, more)

-- ---- the same where the list was read twice

pub left_read : {T : Type 0} (before : T → T → Bool) (o : IsOrder before) (d : T) (xs ys zs : List T) (i : ℕ) (there wanted : Bool) → ys ≡ xs → zs ≡ xs → IsPlace before d ys i
    → there ≡ is_item (is_same before d) (slice_get zs i) → beq there wanted ≡ true → xs ≡ marked before d wanted xs
left_read {T} before o d xs ys zs i there wanted first second h is e =
    left_alone before o (is_same before d) d (same_tests before o d) xs i (subst (λ (ws : List T). IsPlace before d ws i) first h) there wanted
    (is ∙ ap (λ (ws : List T). is_item (is_same before d) (slice_get ws i)) second) e

pub put_read : {T : Type 0} (before : T → T → Bool) (o : IsOrder before) (d : T) (xs ys zs : List T) (i : ℕ) (there wanted : Bool) → ys ≡ xs → zs ≡ xs → IsPlace before d ys i
    → there ≡ is_item (is_same before d) (slice_get zs i) → beq there wanted ≡ false → wanted ≡ true → insert xs i d ≡ marked before d wanted xs
put_read {T} before o d xs ys zs i there wanted first second h is e w =
    put_in before o (is_same before d) d (same_tests before o d) xs i (subst (λ (ws : List T). IsPlace before d ws i) first h) there wanted
    (is ∙ ap (λ (ws : List T). is_item (is_same before d) (slice_get ws i)) second) e w

pub taken_read : {T : Type 0} (before : T → T → Bool) (o : IsOrder before) (d : T) (xs ys zs : List T) (i : ℕ) (there wanted : Bool) → ys ≡ xs → zs ≡ xs → IsPlace before d ys i
    → there ≡ is_item (is_same before d) (slice_get zs i) → beq there wanted ≡ false → wanted ≡ false
    → (i < length xs) × (remove xs i ≡ marked before d wanted xs)
taken_read {T} before o d xs ys zs i there wanted first second h is e w =
    let read = is ∙ ap (λ (ws : List T). is_item (is_same before d) (slice_get ws i)) second in (
      item_within (is_same before d) xs i there wanted read e w,
      taken_out before o (is_same before d) d (same_tests before o d) xs i (subst (λ (ws : List T). IsPlace before d ws i) first h) there wanted read e w,
    )
