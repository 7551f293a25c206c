-- Entries of a map by their bytes.
use Rattle.std.proofs.Common.{◌≡◌, ℕ, List, [], ◌∷◌, Bool, true, false, cond, Vec, refl, sym, ap, subst, ◌∙◌}
use Rattle.std.specs.Prelude.{Option, Some, None, if◌then◌else◌}
use Rattle.std.specs.BTreeMap.{insert_entry}
use Rattle.std.specs.Map.{lookup}
use Rattle.std.specs.declared.alloc.Global.{Global}
use Rattle.std.specs.declared.cmp.Ordering.{Ordering}
use Rattle.std.specs.declared.cmp.Ordering.TheVariants.{Less, Equal, Greater}
use Rattle.std.specs.Ordering.{nat_cmp, is_eq, match_ordering}
use Rattle.std.specs.Cmp.Lexicographic.{slice_cmp}
use Rattle.std.specs.Str.{bytes_eq}
use Rattle.std.proofs.lemmas.Cmp.{nat_list_eq_equiv, nat_list_cmp_total, tied_itself}
use Rattle.std.proofs.lemmas.Map.Text.{is_eq-slice_cmp}
use Rattle.std.proofs.lemmas.Map.Lookups.{exact_bytes}
use Rattle.std.proofs.lemmas.Slice.Eq.{bytes_eq-Decides}

abbrev pub Key : Type 0
Key = Vec ℕ Global

abbrev pub order : Key → Key → Ordering
order a b = slice_cmp nat_cmp a.items b.items

apart : (name : List ℕ) (k x : Key) → bytes_eq k.items name ≡ true → is_eq (slice_cmp nat_cmp name x.items) ≡ true → order k x ≡ Equal
apart name k x p q =
    let a : k.items ≡ name = (bytes_eq-Decides k.items name).0 p in
    let b : name ≡ x.items = (bytes_eq-Decides name x.items).0 (sym (is_eq-slice_cmp name x.items) ∙ q) in
    subst (λ y. slice_cmp nat_cmp k.items y ≡ Equal) (a ∙ b) (tied_itself nat_list_cmp_total k.items)

tests : (name : List ℕ) (k : Key) → is_eq (slice_cmp nat_cmp name k.items) ≡ bytes_eq k.items name
tests name k = is_eq-slice_cmp name k.items ∙ nat_list_eq_equiv.symm name k.items

one_test : {A : Type 0} (a b : Bool) (v w : A) (r : Option A) → a ≡ b → cond a (Some v) r ≡ (if b then Some v else cond a (Some w) r)
one_test true true v w r e = refl
one_test true false v w r e = absurd (cc)
one_test false true v w r e = absurd (cc)
one_test false false v w r e = refl

two_tests : {A : Type 0} (a b : Bool) (v w : A) (r : Option A) → (a ≡ true → b ≡ true → ⊥) → cond a (Some w) (if b then Some v else r) ≡ (if b then Some v else cond a (Some w) r)
two_tests true true v w r h = absurd (h refl refl)
two_tests true false v w r h = refl
two_tests false b v w r h = refl

module _ {X : Type 0} where
  abbrev pub Got : List ℕ → List (Key × X) → Option X
  Got name es = lookup (λ k. is_eq (slice_cmp nat_cmp name k.items)) es

  got_at : (name : List ℕ) (k : Key) (v : X) (e : Key × X) (es : List (Key × X)) (o : Ordering) → order k e.0 ≡ o
      → Got name (insert_entry order es k v) ≡ (if bytes_eq k.items name then Some v else Got name es)
      → Got name (match_ordering o ((k, v) ∷ e ∷ es) ((e.0, v) ∷ es) (e ∷ insert_entry order es k v)) ≡ (if bytes_eq k.items name then Some v else Got name (e ∷ es))
  got_at name k v e es Less p h = ap (λ (b : Bool). cond b (Some v) (Got name (e ∷ es))) (tests name k)
  got_at name k v e es Equal p h = one_test (is_eq (slice_cmp nat_cmp name e.0.items)) (bytes_eq k.items name) v e.1 (Got name es) (tests name e.0 ∙ ap (λ n. bytes_eq n name) (sym (exact_bytes k.items e.0.items p)))
  got_at name k v e es Greater p h =
      ap (λ (r : Option X). cond (is_eq (slice_cmp nat_cmp name e.0.items)) (Some e.1) r) h
      ∙ two_tests (is_eq (slice_cmp nat_cmp name e.0.items)) (bytes_eq k.items name) v e.1 (Got name es) (λ a b. let q : order k e.0 ≡ Equal = apart name k e.0 b a in absurd (cc (p, q)))

  pub got : (name : List ℕ) (k : Key) (v : X) (es : List (Key × X)) → Got name (insert_entry order es k v) ≡ (if bytes_eq k.items name then Some v else Got name es)
  got name k v [] = ap (λ (b : Bool). cond b (Some v) None) (tests name k)
  got name k v (e ∷ es) = got_at name k v e es (order k e.0) refl (got name k v es)
