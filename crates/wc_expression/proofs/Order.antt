-- The order of texts is by their first difference.
use Rattle.std.proofs.Common.{◌≡◌, ℕ, ◌<◌, List, [], ◌∷◌, ◌++◌, refl, sym, ap, arith, ◌∙◌, inl, inr}
use Rattle.std.specs.declared.cmp.Ordering.{Ordering}
use Rattle.std.specs.declared.cmp.Ordering.TheVariants.{Less, Equal, Greater}
use Rattle.std.specs.Cmp.Lexicographic.{slice_cmp}
use Rattle.std.specs.Ordering.{nat_cmp, ordering_then, ordering_reverse}
use Rattle.std.specs.Prelude.{◌↔◌}
use Rattle.std.proofs.lemmas.Bool.Decides.{nat_tests}
use Rattle.std.proofs.lemmas.Cmp.{nat_list_cmp_total, ranked}
use Rattle.wc_expression.specs.Laws.{ComesBefore}

abbrev cmp : List ℕ → List ℕ → Ordering
cmp = slice_cmp nat_cmp

-- what differs behind equal bytes
deeper : (x y : ℕ) (xs ys : List ℕ) → x ≡ y → ComesBefore xs ys → ComesBefore (x ∷ xs) (y ∷ ys)
deeper x y xs ys e (inl h) = inl (h.0, h.1, λ i. sym e i ∷ h.2 i)
deeper x y xs ys e (inr h) = inr (x ∷ h.0, h.1, h.2, h.3, h.4, ap (λ (zs : List ℕ). x ∷ zs) h.5, (λ i. sym e i ∷ h.6 i), h.7)

before_at : (x y : ℕ) (xs ys : List ℕ) (o : Ordering) → o ≡ nat_cmp x y → ordering_then o (cmp xs ys) ≡ Less → (cmp xs ys ≡ Less → ComesBefore xs ys) → ComesBefore (x ∷ xs) (y ∷ ys)
before_at x y xs ys Less e h k = inr ([], x, y, xs, ys, refl, refl, ranked x y Less e)
before_at x y xs ys Equal e h k = deeper x y xs ys (ranked x y Equal e) (k h)
before_at x y xs ys Greater e h k = absurd (cc)

before_is : (a b : List ℕ) → cmp a b ≡ Less → ComesBefore a b
before_is [] [] h = absurd (cc)
before_is [] (y ∷ ys) h = inl (y, ys, refl)
before_is (x ∷ xs) [] h = absurd (cc)
before_is (x ∷ xs) (y ∷ ys) h = before_at x y xs ys (nat_cmp x y) refl h (before_is xs ys)

itself : (x : ℕ) → nat_cmp x x ≡ Equal
itself x = grind (arith, nat_tests)

lesser : (x y : ℕ) → x < y → nat_cmp x y ≡ Less
lesser x y h = grind (arith, nat_tests)

-- a common front plays no part
behind : (front a b : List ℕ) → cmp (front ++ a) (front ++ b) ≡ cmp a b
behind [] a b = refl
behind (x ∷ xs) a b = ap (λ o. ordering_then o (cmp (xs ++ a) (xs ++ b))) (itself x) ∙ behind xs a b

begins_before : (a b : List ℕ) (y : ℕ) (ys : List ℕ) → b ≡ a ++ y ∷ ys → cmp a b ≡ Less
begins_before [] b y ys h = ap (cmp []) h
begins_before (x ∷ xs) [] y ys h = absurd (cc)
begins_before (x ∷ xs) (z ∷ zs) y ys h =
    let head : x ≡ z = cc in
    let tail : zs ≡ xs ++ y ∷ ys = cc in
    (λ i. ordering_then (nat_cmp x (sym head i)) (cmp xs zs)) ∙ ap (λ o. ordering_then o (cmp xs zs)) (itself x) ∙ begins_before xs zs y ys tail

is_before : (a b : List ℕ) → ComesBefore a b → cmp a b ≡ Less
is_before a b (inl h) = begins_before a b h.0 h.1 h.2
is_before a b (inr h) =
    (λ i. cmp (h.5 i) (h.6 i)) ∙ behind h.0 (h.1 ∷ h.3) (h.2 ∷ h.4) ∙ ap (λ o. ordering_then o (cmp h.3 h.4)) (lesser h.1 h.2 h.7)

pub less_is : (a b : List ℕ) → (cmp a b ≡ Less) ↔ ComesBefore a b
less_is a b = (before_is a b, is_before a b)

back : (o : Ordering) → o ≡ Greater → ordering_reverse o ≡ Less
back o h = ap ordering_reverse h

pub greater_is : (a b : List ℕ) → (cmp a b ≡ Greater) ↔ ComesBefore b a
greater_is a b = (
  (λ h. before_is b a (nat_list_cmp_total.antisymm b a ∙ ap ordering_reverse h)),
  (λ h. nat_list_cmp_total.antisymm a b ∙ ap ordering_reverse (is_before b a h)),
)

equal_at : (x y : ℕ) (xs ys : List ℕ) (o : Ordering) → o ≡ nat_cmp x y → ordering_then o (cmp xs ys) ≡ Equal → (cmp xs ys ≡ Equal → xs ≡ ys) → x ∷ xs ≡ y ∷ ys
equal_at x y xs ys Less e h k = absurd (cc)
equal_at x y xs ys Equal e h k = let head : x ≡ y = ranked x y Equal e in let tail = k h in λ i. head i ∷ tail i
equal_at x y xs ys Greater e h k = absurd (cc)

same_from : (a b : List ℕ) → cmp a b ≡ Equal → a ≡ b
same_from [] [] h = refl
same_from [] (y ∷ ys) h = absurd (cc)
same_from (x ∷ xs) [] h = absurd (cc)
same_from (x ∷ xs) (y ∷ ys) h = equal_at x y xs ys (nat_cmp x y) refl h (same_from xs ys)

same_itself : (a : List ℕ) → cmp a a ≡ Equal
same_itself [] = refl
same_itself (x ∷ xs) = ap (λ o. ordering_then o (cmp xs xs)) (itself x) ∙ same_itself xs

pub equal_is : (a b : List ℕ) → (cmp a b ≡ Equal) ↔ (a ≡ b)
equal_is a b = (same_from a b, λ h. ap (cmp a) (sym h) ∙ same_itself a)
