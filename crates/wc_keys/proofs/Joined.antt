-- Entries in two lists in order.
use Rattle.std.proofs.Common.{◌≡◌, ℕ, ◌+◌, ◌≤◌, Bool, true, false, List, [], ◌∷◌, length, refl, sym, ap, ◌∙◌, arith}
use Rattle.std.specs.Prelude.{if◌then◌else◌, ◌==◌, ◌||◌, ◌-◌, slice_get, slice_index_or, Option, Some, None}
use Rattle.std.proofs.lemmas.List.{get_or_default}
use Rattle.std.proofs.lemmas.Map.Keys.{any_passes_from_place}
use Rattle.std.specs.Str.{bytes_eq}
use Rattle.std.proofs.lemmas.Bool.{eqb-true, and_parts}
use Rattle.wc_value.proofs.Puts.{same_name}
use Rattle.wc_records.specs.Marked.{IsSorted, IsPlace, is_item, marked}
use Rattle.wc_records.proofs.Marks.{sorted_marked, sorted_is_parted, marked_present, marked_absent}
use Rattle.wc_records.proofs.Standing.{stands_itself, stands_other, length_marked, as_number}
use Rattle.wc_keys.specs.declared.entries.Sealed.{Sealed}
use Rattle.wc_keys.specs.Order.{earlier, is_seal, is_in, joined}
use Rattle.wc_keys.proofs.Exact.{absent, present, or_right, same_lists}
use Rattle.wc_keys.proofs.Orders.{in_order, seal_tests}

-- ---- of two truths

or_nothing : (a : Bool) → (a || false) ≡ a
or_nothing true = refl
or_nothing false = refl

pub or_left : (a b : Bool) → a ≡ true → (a || b) ≡ true
or_left true b h = refl
or_left false b h = absurd (cc)

pub neither : (a b : Bool) → a ≡ false → b ≡ false → (a || b) ≡ false
neither true b one other = absurd (cc)
neither false b one other = other

or_next : (t a b : Bool) → (if t then true else (a || b)) ≡ (a || (t || b))
or_next true true b = refl
or_next true false b = refl
or_next false a b = refl

or_second : (t a b : Bool) → (a || (if t then true else b)) ≡ (if t then true else (a || b))
or_second true true b = refl
or_second true false b = refl
or_second false a b = refl

or_first : (t a b : Bool) → ((if t then true else a) || b) ≡ (if t then true else (a || b))
or_first true a b = refl
or_first false a b = refl

or_none : (t a b : Bool) → ((if t then false else a) || (if t then false else b)) ≡ (if t then false else (a || b))
or_none true a b = refl
or_none false a b = refl

-- ---- what stands there

pub at_itself : (d : List ℕ) (p : ℕ) (s : Sealed) → is_seal d p s ≡ true → (xs : List Sealed) → is_in d p xs ≡ is_in s.digest s.pid xs
at_itself d p s is xs =
    let both = and_parts (bytes_eq s.digest d) (s.pid == p) is in
    let digest : s.digest ≡ d = same_name s.digest d both.0 in
    let number : s.pid ≡ p = eqb-true s.pid p both.1 in
    λ i. is_in (sym digest i) (sym number i) xs

-- the marked entry stands there where it is wanted, and each other one where it stood
pub told_marked : (w : Bool) (s : Sealed) (xs : List Sealed) → IsSorted earlier xs → (d : List ℕ) (p : ℕ) → is_in d p (marked earlier s w xs) ≡ (if is_seal d p s then w else is_in d p xs)
told_marked w s xs h d p = by_test (is_seal d p s) refl
  where
    by_test : (b : Bool) → is_seal d p s ≡ b → is_in d p (marked earlier s w xs) ≡ (if b then w else is_in d p xs)
    by_test true is = at_itself d p s is (marked earlier s w xs) ∙ stands_itself earlier in_order (is_seal s.digest s.pid) s (seal_tests s) w xs h
    by_test false other = stands_other earlier in_order (is_seal d p) s w xs other

-- where the last entry comes before one, all do
pub behind_all : (xs : List Sealed) → IsSorted earlier xs → (s d : Sealed) → earlier (slice_index_or xs (length xs - 1) d) s ≡ true → IsPlace earlier s xs (length xs)
behind_all xs h s d last = record {
  within = omega arith;
  front = λ k e lt.
      sorted_is_parted earlier in_order s xs h k (length xs - 1) e (omega (arith, lt)) (omega (arith, lt))
      (ap (λ (x : Sealed). earlier x s) (get_or_default xs (length xs - 1) e d (omega (arith, lt))) ∙ last);
  back = λ k e le lt. absurd (omega (arith, le, lt));
}

-- an item at a place that is this entry
pub there_at : (xs : List Sealed) (digest : List ℕ) (pid at : ℕ) → is_item (is_seal digest pid) (slice_get xs at) ≡ true → is_in digest pid xs ≡ true
there_at xs digest pid at h = by_item (slice_get xs at) refl h
  where
    by_item : (item : Option Sealed) → slice_get xs at ≡ item → is_item (is_seal digest pid) item ≡ true → is_in digest pid xs ≡ true
    by_item None e is = absurd (cc)
    by_item (Some s) e is = any_passes_from_place (is_seal digest pid) xs at s e is

-- the entry at its place
pub found_at : (xs : List Sealed) → IsSorted earlier xs → (s : Sealed) (at : ℕ) → IsPlace earlier s xs at → is_item (is_seal s.digest s.pid) (slice_get xs at) ≡ is_in s.digest s.pid xs
found_at xs h s at place = by_test (is_item (is_seal s.digest s.pid) (slice_get xs at)) refl
  where
    by_test : (b : Bool) → is_item (is_seal s.digest s.pid) (slice_get xs at) ≡ b → b ≡ is_in s.digest s.pid xs
    by_test true is =
        sym
        (ap (is_in s.digest s.pid) (marked_present earlier in_order (is_seal s.digest s.pid) s (seal_tests s) xs at place is true)
        ∙ stands_itself earlier in_order (is_seal s.digest s.pid) s (seal_tests s) true xs h)
    by_test false is =
        sym
        (ap (is_in s.digest s.pid) (marked_absent earlier in_order (is_seal s.digest s.pid) s (seal_tests s) xs at place is false)
        ∙ stands_itself earlier in_order (is_seal s.digest s.pid) s (seal_tests s) false xs h)

-- ---- all in one list

pub sorted_joined : (long short : List Sealed) → IsSorted earlier long → IsSorted earlier (joined long short)
sorted_joined long [] h = h
sorted_joined long (s ∷ short) h = sorted_marked earlier in_order s true (joined long short) (sorted_joined long short h)

pub in_joined : (long short : List Sealed) → IsSorted earlier long → (d : List ℕ) (p : ℕ) → is_in d p (joined long short) ≡ (is_in d p long || is_in d p short)
in_joined long [] h d p = sym (or_nothing (is_in d p long))
in_joined long (s ∷ short) h d p =
    told_marked true s (joined long short) (sorted_joined long short h) d p
    ∙ ap (λ (b : Bool). if is_seal d p s then true else b) (in_joined long short h d p)
    ∙ or_next (is_seal d p s) (is_in d p long) (is_in d p short)

abbrev Differ : List Sealed → List Sealed → Type 0
Differ long short = (d : List ℕ) (p : ℕ) → is_in d p short ≡ true → is_in d p long ≡ false

pub length_joined : (long short : List Sealed) → IsSorted earlier long → IsSorted earlier short → Differ long short → length (joined long short) ≡ length long + length short
length_joined long [] h g apart = omega arith
length_joined long (s ∷ short) h g apart =
    let rest = length_joined long short h g.1 (λ d p is. apart d p (or_right (is_seal d p s) (is_in d p short) is)) in
    let none : is_in s.digest s.pid (joined long short) ≡ false
    = in_joined long short h s.digest s.pid
    ∙ neither (is_in s.digest s.pid long) (is_in s.digest s.pid short) (apart s.digest s.pid (present s short)) (absent s short g.0) in
    let marks = length_marked earlier in_order (is_seal s.digest s.pid) s (seal_tests s) true (joined long short) (sorted_joined long short h) in
    omega (arith, rest, marks, ap as_number none)

-- the first list is no longer than both
pub long_within : (long short : List Sealed) → IsSorted earlier long → length long ≤ length (joined long short)
long_within long [] h = omega arith
long_within long (s ∷ short) h =
    let marks = length_marked earlier in_order (is_seal s.digest s.pid) s (seal_tests s) true (joined long short) (sorted_joined long short h) in
    omega (arith, long_within long short h, marks, at_most_one (is_in s.digest s.pid (joined long short)))
  where
    at_most_one : (b : Bool) → as_number b ≤ 1
    at_most_one true = omega arith
    at_most_one false = omega arith

-- ---- an entry put in or taken out

module _ (s : Sealed) (long short : List Sealed) (up : IsSorted earlier long) (short_up : IsSorted earlier short) where
  told_all : (w : Bool) (d : List ℕ) (p : ℕ) → is_in d p (marked earlier s w (joined long short)) ≡ (if is_seal d p s then w else (is_in d p long || is_in d p short))
  told_all w d p =
      told_marked w s (joined long short) (sorted_joined long short up) d p
      ∙ ap (λ (b : Bool). if is_seal d p s then w else b) (in_joined long short up d p)

  sorted_all : (w : Bool) → IsSorted earlier (marked earlier s w (joined long short))
  sorted_all w = sorted_marked earlier in_order s w (joined long short) (sorted_joined long short up)

  -- it was there
  pub stays_joined : (is_in s.digest s.pid long || is_in s.digest s.pid short) ≡ true → joined long short ≡ marked earlier s true (joined long short)
  stays_joined there =
      same_lists (joined long short) (marked earlier s true (joined long short)) (sorted_joined long short up) (sorted_all true)
      (λ d p.
      by_test d p (is_seal d p s) refl ∙ sym (told_marked true s (joined long short) (sorted_joined long short up) d p))
    where
      by_test : (d : List ℕ) (p : ℕ) (b : Bool) → is_seal d p s ≡ b → is_in d p (joined long short) ≡ (if b then true else is_in d p (joined long short))
      by_test d p true is = at_itself d p s is (joined long short) ∙ in_joined long short up s.digest s.pid ∙ there
      by_test d p false is = refl

  -- into the second list
  pub short_joined : joined long (marked earlier s true short) ≡ marked earlier s true (joined long short)
  short_joined =
      same_lists (joined long (marked earlier s true short)) (marked earlier s true (joined long short)) (sorted_joined long (marked earlier s true short) up) (sorted_all true)
      (λ d p.
      in_joined long (marked earlier s true short) up d p
      ∙ ap (λ (b : Bool). is_in d p long || b) (told_marked true s short short_up d p)
      ∙ or_second (is_seal d p s) (is_in d p long) (is_in d p short)
      ∙ sym (told_all true d p))

  -- into the first list
  pub long_joined : joined (marked earlier s true long) short ≡ marked earlier s true (joined long short)
  long_joined =
      let more = sorted_marked earlier in_order s true long up in
      same_lists (joined (marked earlier s true long) short) (marked earlier s true (joined long short)) (sorted_joined (marked earlier s true long) short more) (sorted_all true)
      (λ d p.
      in_joined (marked earlier s true long) short more d p
      ∙ ap (λ (b : Bool). b || is_in d p short) (told_marked true s long up d p)
      ∙ or_first (is_seal d p s) (is_in d p long) (is_in d p short)
      ∙ sym (told_all true d p))

  -- out of both
  pub out_joined : joined (marked earlier s false long) (marked earlier s false short) ≡ marked earlier s false (joined long short)
  out_joined =
      let less = sorted_marked earlier in_order s false long up in
      same_lists (joined (marked earlier s false long) (marked earlier s false short)) (marked earlier s false (joined long short))
      (sorted_joined (marked earlier s false long) (marked earlier s false short) less) (sorted_all false)
      (λ d p.
      in_joined (marked earlier s false long) (marked earlier s false short) less d p
      ∙ (λ i. told_marked false s long up d p i || told_marked false s short short_up d p i)
      ∙ or_none (is_seal d p s) (is_in d p long) (is_in d p short)
      ∙ sym (told_all false d p))
