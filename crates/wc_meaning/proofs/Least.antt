-- The least name of several lists.
use Rattle.std.proofs.Common.{◌≡◌, ℕ, List, [], ◌∷◌, ◌++◌, Option, Some, None, Bool, true, false, ◌||◌, if◌then◌else◌, refl, sym, ap, subst, ◌∙◌}
use Rattle.std.proofs.lemmas.Cmp.{nat_list_cmp_total}
use Rattle.std.proofs.lemmas.Slice.Eq.{bytes_eq-Decides}
use Rattle.std.specs.List.{AllByRecursion}
use Rattle.std.proofs.lemmas.Map.Text.{is_eq-slice_cmp}
use Rattle.std.specs.Ordering.{nat_cmp, is_lt, is_eq, ordering_reverse}
use Rattle.std.specs.declared.cmp.Ordering.{Ordering}
use Rattle.std.specs.declared.cmp.Ordering.TheVariants.{Less, Equal, Greater}
use Rattle.std.specs.Cmp.Lexicographic.{slice_cmp}
use Rattle.std.specs.Str.{bytes_eq}
use Rattle.wc_value.specs.Ascending.{before}
use Rattle.wc_syntax.specs.Findings.{is_among}
use Rattle.wc_meaning.specs.Inputs.{lesser, least, least_after, IsLeast}

pub least_after_append : (best : Option (List ℕ)) (xs ys : List (List ℕ)) → least_after best (xs ++ ys) ≡ least_after (least_after best xs) ys
least_after_append best [] ys = refl
least_after_append best (x ∷ xs) ys = least_after_append (lesser best x) xs ys

-- ---- no least name, no name
is_least : (best : List ℕ) (ns : List (List ℕ)) → least_after (Some best) ns ≡ None → ⊥
is_least best [] h = absurd (cc)
is_least best (n ∷ ns) h = is_least (if before n best then n else best) ns h

pub no_least : (ns : List (List ℕ)) → least ns ≡ None → ns ≡ []
no_least [] h = refl
no_least (n ∷ ns) h = absurd (is_least n ns h)

-- ---- the least name is one of them
itself : (n : List ℕ) → bytes_eq n n ≡ true
itself n = (bytes_eq-Decides n n).1 refl

or_true : (a b : Bool) → b ≡ true → a || b ≡ true
or_true true b p = refl
or_true false b p = p

true_or : (a b : Bool) → a ≡ true → a || b ≡ true
true_or true b p = refl
true_or false b p = absurd (cc)

-- one of these, or the one that was the least before
abbrev IsOneOf : List ℕ → List (List ℕ) → List ℕ → Type 0
IsOneOf best ns name = is_among name (best ∷ ns) ≡ true

kept_among : (best n name : List ℕ) (ns : List (List ℕ)) (b : Bool) → IsOneOf (if b then n else best) ns name → IsOneOf best (n ∷ ns) name
kept_among best n name ns true h = or_true (bytes_eq best name) _ h
kept_among best n name ns false h = at (bytes_eq best name) refl
  where
    at : (c : Bool) → bytes_eq best name ≡ c → is_among name (best ∷ n ∷ ns) ≡ true
    at true p = true_or _ _ p
    at false p = or_true (bytes_eq best name) _ (or_true (bytes_eq n name) _ (ap (λ d. d || is_among name ns) (sym p) ∙ h))

among_after : (best name : List ℕ) (ns : List (List ℕ)) → least_after (Some best) ns ≡ Some name → IsOneOf best ns name
among_after best name [] h = let e : best ≡ name = cc in true_or _ _ (ap (λ z. bytes_eq z name) e ∙ itself name)
among_after best name (n ∷ ns) h = kept_among best n name ns (before n best) (among_after (if before n best then n else best) name ns h)

-- ---- and none stands before it
is_less : (o : Ordering) → is_lt o ≡ true → o ≡ Less
is_less Less h = refl
is_less Equal h = absurd (cc)
is_less Greater h = absurd (cc)

along : (a b c : List ℕ) → before a b ≡ true → before b c ≡ true → before a c ≡ true
along a b c p q = ap is_lt (nat_list_cmp_total.trans a b c (is_less _ p) (is_less _ q))

-- what is behind another isn't before a name that the other isn't before
behind : (a b c : List ℕ) → before a b ≡ true → before a c ≡ false → before b c ≡ false
behind a b c p q = at (before b c) refl
  where
    at : (x : Bool) → before b c ≡ x → x ≡ false
    at false r = refl
    at true r = let e : true ≡ false = sym (along a b c p r) ∙ q in absurd (cc)

other_way : (o : Ordering) → is_lt o ≡ false → is_eq o ≡ false → ordering_reverse o ≡ Less
other_way Less p q = absurd (cc)
other_way Equal p q = absurd (cc)
other_way Greater p q = refl

comes_after : (a b : List ℕ) → before a b ≡ false → bytes_eq a b ≡ false → before b a ≡ true
comes_after a b p q = ap is_lt (nat_list_cmp_total.antisymm b a ∙ other_way (slice_cmp nat_cmp a b) p (is_eq-slice_cmp a b ∙ q))

not_before : (n best name : List ℕ) → before n best ≡ false → before best name ≡ false → before n name ≡ false
not_before n best name p q = at (bytes_eq n best) refl
  where
    at : (x : Bool) → bytes_eq n best ≡ x → before n name ≡ false
    at true r = subst (λ (z : List ℕ). before z name ≡ false) (sym ((bytes_eq-Decides n best).0 r)) q
    at false r = behind best n name (comes_after n best p r) q

-- none of these, nor the one that was the least before, stands before the name
abbrev NoneBefore : List ℕ → List (List ℕ) → List ℕ → Type 0
NoneBefore best ns name = (before best name ≡ false) × AllByRecursion (λ n. before n name ≡ false) ns

next_before : (best n name : List ℕ) (ns : List (List ℕ)) (b : Bool) → before n best ≡ b → NoneBefore (if b then n else best) ns name → NoneBefore best (n ∷ ns) name
next_before best n name ns true p h = (behind n best name p h.0, (h.0, h.1))
next_before best n name ns false p h = (h.0, (not_before n best name p h.0, h.1))

irreflexive : (o : Ordering) → o ≡ ordering_reverse o → is_lt o ≡ false
irreflexive Less h = absurd (cc)
irreflexive Equal h = refl
irreflexive Greater h = refl

not_itself : (n : List ℕ) → before n n ≡ false
not_itself n = irreflexive (slice_cmp nat_cmp n n) (nat_list_cmp_total.antisymm n n)

none_before : (best name : List ℕ) (ns : List (List ℕ)) → least_after (Some best) ns ≡ Some name → NoneBefore best ns name
none_before best name [] h = let e : best ≡ name = cc in (subst (λ (z : List ℕ). before best z ≡ false) e (not_itself best), tt)
none_before best name (n ∷ ns) h =
    next_before best n name ns (before n best) refl (none_before (if before n best then n else best) name ns h)

pub least_is : (names : List (List ℕ)) (name : List ℕ) → least names ≡ Some name → IsLeast names name
least_is [] name h = absurd (cc)
least_is (n ∷ ns) name h = let k = none_before n name ns h in record { among = among_after n name ns h; first = (k.0, k.1) }
