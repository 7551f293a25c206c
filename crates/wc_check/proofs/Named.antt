-- Ordered sets and the lists of their members.
use Rattle.std.proofs.Common.{◌≡◌, ℕ, ℤ, List, [], ◌∷◌, ◌++◌, Bool, true, false, Vec, refl, sym, ap, ◌∙◌, map}
use Rattle.std.specs.Prelude.{◌||◌}
use Rattle.std.proofs.lemmas.Map.Text.{is_eq-slice_cmp}
use Rattle.std.proofs.lemmas.Map.Lookups.{exact_bytes, exact_signed}
use Rattle.std.proofs.lemmas.Cmp.{nat_list_eq_equiv, int_eq_equiv}
use Rattle.std.specs.declared.alloc.Global.{Global}
use Rattle.std.specs.declared.cmp.Ordering.{Ordering}
use Rattle.std.specs.declared.cmp.Ordering.TheVariants.{Less, Equal, Greater}
use Rattle.std.specs.Ordering.{nat_cmp, int_cmp, int_eq, is_eq, match_ordering}
use Rattle.std.specs.Cmp.Lexicographic.{slice_cmp}
use Rattle.std.specs.BTreeSet.{insert_key}
use Rattle.std.specs.List.{list_any}
use Rattle.std.specs.Str.{bytes_eq}
use Rattle.wc_syntax.specs.Findings.{is_among, is_status}
use Rattle.wc_check.specs.Least.{Agree, AgreeAt}

swapped : (a b c : Bool) → (a || (b || c)) ≡ (b || (a || c))
swapped true true c = refl
swapped true false c = refl
swapped false b c = refl

doubled : (a b c : Bool) → a ≡ b → (a || c) ≡ (b || (a || c))
doubled true true c e = refl
doubled true false c e = absurd (cc)
doubled false true c e = absurd (cc)
doubled false false c e = refl

module _ {K : Type 0} (cmp : K → K → Ordering) (test : K → Bool) (same : (k x : K) → cmp k x ≡ Equal → test k ≡ test x) where
  put_at : (k x : K) (xs : List K) (o : Ordering) → cmp k x ≡ o → list_any test (insert_key cmp xs k) ≡ (test k || list_any test xs)
      → list_any test (match_ordering o (k ∷ x ∷ xs) (x ∷ xs) (x ∷ insert_key cmp xs k)) ≡ (test k || (test x || list_any test xs))
  put_at k x xs Less e h = refl
  put_at k x xs Equal e h = doubled (test x) (test k) (list_any test xs) (sym (same k x e))
  put_at k x xs Greater e h = ap (λ b. test x || b) h ∙ swapped (test x) (test k) (list_any test xs)

  -- whether a member passes, after one was put in
  pub any_put : (k : K) (ks : List K) → list_any test (insert_key cmp ks k) ≡ (test k || list_any test ks)
  any_put k [] = refl
  any_put k (x ∷ xs) = put_at k x xs (cmp k x) refl (any_put k xs)

any_last : {K : Type 0} (test : K → Bool) (k : K) (ks : List K) → list_any test (ks ++ k ∷ []) ≡ (test k || list_any test ks)
any_last test k [] = refl
any_last test k (x ∷ ks) = ap (λ b. test x || b) (any_last test k ks) ∙ swapped (test x) (test k) (list_any test ks)

any_map : {K X : Type 0} (test : X → Bool) (f : K → X) (ks : List K) → list_any test (map f ks) ≡ list_any (λ k. test (f k)) ks
any_map test f [] = refl
any_map test f (k ∷ ks) = ap (λ b. test (f k) || b) (any_map test f ks)

any_alike : {K : Type 0} (p q : K → Bool) → ((k : K) → p k ≡ q k) → (ks : List K) → list_any p ks ≡ list_any q ks
any_alike p q h [] = refl
any_alike p q h (k ∷ ks) = λ i. h k i || any_alike p q h ks i

-- ---- names
abbrev pub Key : Type 0
Key = Vec ℕ Global

abbrev pub order : Key → Key → Ordering
order x y = slice_cmp nat_cmp x.items y.items

abbrev pub names_of : List Key → List (List ℕ)
names_of = map (λ k. k.items)

tests : (a b : List ℕ) → is_eq (slice_cmp nat_cmp a b) ≡ bytes_eq b a
tests a b = is_eq-slice_cmp a b ∙ nat_list_eq_equiv.symm a b

pub found : (name : List ℕ) (ks : List Key) → list_any (λ k. is_eq (slice_cmp nat_cmp name k.items)) ks ≡ is_among name (names_of ks)
found name ks = any_alike _ (λ k. bytes_eq k.items name) (λ k. tests name k.items) ks ∙ sym (any_map (λ n. bytes_eq n name) (λ k. k.items) ks)

-- a set into which a name is put has the names before and that one
pub put_last : (k : Key) (ks : List Key) → Agree (names_of (insert_key order ks k)) (names_of ks ++ k.items ∷ [])
put_last k ks = λ m.
    any_map (λ n. bytes_eq n m) (λ x. x.items) (insert_key order ks k)
    ∙ any_put order (λ x. bytes_eq x.items m) (λ x y e. ap (λ n. bytes_eq n m) (exact_bytes x.items y.items e)) k ks
    ∙ ap (λ b. bytes_eq k.items m || b) (sym (any_map (λ n. bytes_eq n m) (λ x. x.items) ks))
    ∙ sym (any_last (λ n. bytes_eq n m) k.items (names_of ks))

-- ---- statuses
status_tests : (a b : ℤ) → is_eq (int_cmp a b) ≡ int_eq b a
status_tests a b = int_eq_equiv.symm a b

pub status_found : (n : ℤ) (ks : List ℤ) → list_any (λ k. is_eq (int_cmp n k)) ks ≡ is_status n ks
status_found n ks = any_alike _ (λ k. int_eq k n) (λ k. status_tests n k) ks

pub status_last : (n : ℤ) (ks : List ℤ) → AgreeAt is_status (insert_key int_cmp ks n) (ks ++ n ∷ [])
status_last n ks = λ m.
    any_put int_cmp (λ x. int_eq x m) (λ x y e. ap (λ k. int_eq k m) (exact_signed x y e)) n ks
    ∙ sym (any_last (λ x. int_eq x m) n ks)
