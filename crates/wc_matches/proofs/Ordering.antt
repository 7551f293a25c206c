-- Numbers in order.
use Rattle.std.proofs.Common.{◌≡◌, ⊎_elim, ℕ, ◌+◌, ◌<◌, ◌≤◌, ◌==◌, ◌&&◌, ◌||◌, Bool, true, false, List, [], ◌∷◌, ◌++◌, length, get_or, take, Contains, refl, sym, ap, ◌∙◌, subst, arith, eq-eqb}
use Rattle.std.specs.Prelude.{nat_eq}
use Rattle.std.specs.List.{AllByRecursion, dedup}
use Rattle.std.specs.List.Sorted.{IsStrictlyIncreasing, IsStrictlySortedBy, IsPermutation, IsSorted}
use Rattle.std.specs.Ordering.{nat_cmp}
use Rattle.std.proofs.lemmas.Bool.{or_cases, or_left, or_right, eqb-true, cases_eq, cases_lt, true≢false}
use Rattle.std.specs.declared.cmp.Ordering.TheVariants.{Less}
use Rattle.std.proofs.lemmas.List.Kept.{Contains-dedup_nat, Contains-from_dedup}
use Rattle.std.proofs.lemmas.List.Sorted.{Contains-permutation, IsPermutation-sym}
use Rattle.std.proofs.lemmas.Cmp.{ranked}
use Rattle.std.proofs.lemmas.Map.Keys.{IsStrictlyIncreasing-dedup, sorted_from_strictly_increasing}
use Rattle.std.proofs.lemmas.List.{take_all, get_or_past, get_or_default}
use Rattle.std.proofs.lemmas.List.Folds.{list_any_more, list_any_at}
use Rattle.wc_matches.specs.Found.{has}
use Rattle.wc_matches.specs.Numbers.{Ascends, AreNumbers}
use Rattle.wc_matches.proofs.Finding.{place_of, has_push}

-- ---- sorted numbers

pub contains_has : (ns : List ℕ) (m : ℕ) → Contains ns m → has ns m ≡ true
contains_has ns m (k, lt, is) = list_any_at (λ n. n == m) ns k m lt (eq-eqb (get_or ns k m) m is)

pub has_contains : (ns : List ℕ) (m : ℕ) → has ns m ≡ true → Contains ns m
has_contains ns m h = let p = place_of ns m h in (p.0, p.1, get_or_default ns p.0 m 0 p.1 ∙ p.2)

less_below : (n m : ℕ) → nat_cmp n m ≡ Less → n < m
less_below n m h = ranked n m Less (sym h)

all_below : (n : ℕ) (ms : List ℕ) → AllByRecursion (λ m. nat_cmp n m ≡ Less) ms → AllByRecursion (λ m. n < m) ms
all_below n [] h = tt
all_below n (m ∷ ms) h = (less_below n m h.0, all_below n ms h.1)

from_sorted : (ns : List ℕ) → IsStrictlySortedBy nat_cmp ns → Ascends ns
unfolding IsStrictlySortedBy
from_sorted [] h = tt
from_sorted (n ∷ ns) h = (all_below n ns h.0, from_sorted ns h.1)

pub ascends_from : (ns : List ℕ) → IsStrictlyIncreasing ns → Ascends ns
ascends_from ns h = from_sorted ns (sorted_from_strictly_increasing ns h)

-- ---- a greater number behind

all_push : (P : ℕ → Type 0) (ns : List ℕ) (n : ℕ) → AllByRecursion P ns → P n → AllByRecursion P (ns ++ n ∷ [])
all_push P [] n h p = (p, tt)
all_push P (m ∷ ms) n h p = (h.0, all_push P ms n h.1 p)

ascends_push : (ns : List ℕ) (n : ℕ) → Ascends ns → AllByRecursion (λ m. m < n) ns → Ascends (ns ++ n ∷ [])
ascends_push [] n h below = (tt, tt)
ascends_push (m ∷ ms) n h below = (all_push (λ k. m < k) ms n h.0 below.0, ascends_push ms n h.1 below.1)

all_has : (P : ℕ → Type 0) (ns : List ℕ) → ((m : ℕ) → has ns m ≡ true → P m) → AllByRecursion P ns
all_has P [] h = tt
all_has P (n ∷ ns) h = (h n (or_left (n == n) (has ns n) (eq-eqb n n refl)), all_has P ns (λ m k. h m (or_right (n == m) (has ns m) k)))

-- ---- the numbers that are marked, up to a place

abbrev pub MarkedBelow : List Bool → ℕ → ℕ → Type 0
MarkedBelow set i m = (m < i) × (get_or set m false ≡ true)

pub numbers_past : (set : List Bool) (i : ℕ) (ns more : List ℕ) → get_or set i false ≡ false → more ≡ ns → AreNumbers (MarkedBelow set i) ns
    → AreNumbers (MarkedBelow set (i + 1)) more
numbers_past set i ns more is same a = subst (AreNumbers (MarkedBelow set (i + 1))) (sym same) (record {
  ascend = a.ascend;
  each = λ m. (
    λ h. let p = (a.each m).0 h in (omega (arith, p.0), p.1),
    λ p. (a.each m).1 (⊎_elim
        (λ (e : m ≡ i). absurd (true≢false (sym p.1 ∙ ap (λ k. get_or set k false) e ∙ is)))
        (λ (ne : m ≡ i → ⊥). (below_still m i p.0 ne, p.1)) (cases_eq m i)),
  );
})
  where
    below_still : (m i : ℕ) → m < i + 1 → (m ≡ i → ⊥) → m < i
    below_still m i lt ne = omega (arith, lt, ne)

pub numbers_more : (set : List Bool) (i : ℕ) (ns more : List ℕ) → get_or set i false ≡ true → more ≡ ns ++ i ∷ [] → AreNumbers (MarkedBelow set i) ns
    → AreNumbers (MarkedBelow set (i + 1)) more
numbers_more set i ns more is pushed a = subst (AreNumbers (MarkedBelow set (i + 1))) (sym pushed) (record {
  ascend = ascends_push ns i a.ascend (all_has (λ m. m < i) ns (λ m h. ((a.each m).0 h).0));
  each = λ m. (
    λ h. ⊎_elim (λ (old : has ns m ≡ true). let p = (a.each m).0 old in (omega (arith, p.0), p.1))
        (λ (new : (i == m) ≡ true). let e : i ≡ m = eqb-true i m new in (omega (arith, e), ap (λ k. get_or set k false) (sym e) ∙ is))
        (or_cases (has ns m) (i == m) (sym (has_push ns i m) ∙ h)),
    λ p. has_push ns i m ∙ ⊎_elim
        (λ (e : m ≡ i). or_right (has ns m) (i == m) (eq-eqb i m (sym e)))
        (λ (ne : m ≡ i → ⊥). or_left (has ns m) (i == m) ((a.each m).1 (omega (arith, p.0, ne), p.1))) (cases_eq m i),
  );
})

pub numbers_all : (set : List Bool) (i : ℕ) (ns : List ℕ) → length set ≤ i → AreNumbers (MarkedBelow set i) ns → AreNumbers (λ m. get_or set m false ≡ true) ns
numbers_all set i ns all a = record {
  ascend = a.ascend;
  each = λ m. (
    λ h. ((a.each m).0 h).1,
    λ p. (a.each m).1 (⊎_elim (λ (lt : m < length set). (omega (arith, lt, all), p)) (λ (ge : length set ≤ m). absurd (true≢false (sym p ∙ get_or_past set m false ge)))
        (cases_lt m (length set))),
  );
}

-- ---- those of some numbers that are marked

pub kept_more : (set : List Bool) (found kept more : List ℕ) (i : ℕ) → i < length found → get_or set (get_or found i 0) false ≡ true → more ≡ kept ++ get_or found i 0 ∷ []
    → ((m : ℕ) → has kept m ≡ (has (take i found) m && get_or set m false))
    → (m : ℕ) → has more m ≡ (has (take (i + 1) found) m && get_or set m false)
kept_more set found kept more i lt is pushed h m =
    ap (λ (xs : List ℕ). has xs m) pushed ∙ has_push kept (get_or found i 0) m ∙ ap (λ (b : Bool). b || (get_or found i 0 == m)) (h m)
    ∙ joins (has (take i found) m) (get_or found i 0 == m) (get_or set m false) (λ e. ap (λ k. get_or set k false) (sym (eqb-true (get_or found i 0) m e)) ∙ is)
    ∙ ap (λ (b : Bool). b && get_or set m false) (sym (list_any_more (λ k. k == m) found i 0 lt))
  where
    joins : (a b c : Bool) → (b ≡ true → c ≡ true) → ((a && c) || b) ≡ ((a || b) && c)
    joins true true true h = refl
    joins true true false h = absurd (true≢false (sym (h refl)))
    joins true false true h = refl
    joins true false false h = refl
    joins false true true h = refl
    joins false true false h = absurd (true≢false (sym (h refl)))
    joins false false true h = refl
    joins false false false h = refl

pub kept_past : (set : List Bool) (found kept more : List ℕ) (i : ℕ) → i < length found → get_or set (get_or found i 0) false ≡ false → more ≡ kept
    → ((m : ℕ) → has kept m ≡ (has (take i found) m && get_or set m false))
    → (m : ℕ) → has more m ≡ (has (take (i + 1) found) m && get_or set m false)
kept_past set found kept more i lt is same h m =
    ap (λ (xs : List ℕ). has xs m) same ∙ h m
    ∙ joins (has (take i found) m) (get_or found i 0 == m) (get_or set m false) (λ e. ap (λ k. get_or set k false) (sym (eqb-true (get_or found i 0) m e)) ∙ is)
    ∙ ap (λ (b : Bool). b && get_or set m false) (sym (list_any_more (λ k. k == m) found i 0 lt))
  where
    joins : (a b c : Bool) → (b ≡ true → c ≡ false) → (a && c) ≡ ((a || b) && c)
    joins true true true h = refl
    joins true true false h = refl
    joins true false true h = refl
    joins true false false h = refl
    joins false true true h = absurd (true≢false (h refl))
    joins false true false h = refl
    joins false false true h = refl
    joins false false false h = refl

pub kept_all : (set : List Bool) (found kept : List ℕ) (i : ℕ) → length found ≤ i → ((m : ℕ) → has kept m ≡ (has (take i found) m && get_or set m false))
    → (m : ℕ) → has kept m ≡ (has found m && get_or set m false)
kept_all set found kept i all h m = h m ∙ ap (λ (xs : List ℕ). has xs m && get_or set m false) (take_all i found all)

-- ---- sorted and with none twice

same_bool : (a b : Bool) → (a ≡ true → b ≡ true) → (b ≡ true → a ≡ true) → a ≡ b
same_bool true b f g = sym (f refl)
same_bool false true f g = g refl
same_bool false false f g = refl

pub ordered_has : (old sorted ids : List ℕ) → IsPermutation old sorted → ids ≡ dedup nat_eq sorted → (m : ℕ) → has ids m ≡ has old m
ordered_has old sorted ids moved is m = same_bool (has ids m) (has old m)
    (λ h. contains_has old m (Contains-permutation sorted old m (IsPermutation-sym old sorted moved)
    (Contains-from_dedup nat_eq sorted m (subst (λ (xs : List ℕ). Contains xs m) is (has_contains ids m h)))))
    (λ h. contains_has ids m (subst (λ (xs : List ℕ). Contains xs m) (sym is) (Contains-dedup_nat sorted m (Contains-permutation old sorted m moved (has_contains old m h)))))

pub ordered_ascends : (sorted ids : List ℕ) → IsSorted nat_cmp sorted → ids ≡ dedup nat_eq sorted → Ascends ids
ordered_ascends sorted ids order is = subst Ascends (sym is) (ascends_from (dedup nat_eq sorted) (IsStrictlyIncreasing-dedup sorted order))
