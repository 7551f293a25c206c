-- Entries by name: what is looked up after a value is put, and that ascending entries are known by what is looked up.
use Rattle.std.proofs.Common.{◌≡◌, ℕ, Bool, true, false, Option, Some, None, List, [], ◌∷◌, refl, sym, ap, ◌∙◌}
use Rattle.std.specs.Prelude.{if◌then◌else◌}
use Rattle.std.specs.Str.{bytes_eq}
use Rattle.std.specs.Ordering.{nat_cmp, is_lt, is_eq, ordering_reverse}
use Rattle.std.specs.declared.cmp.Ordering.{Ordering}
use Rattle.std.specs.declared.cmp.Ordering.TheVariants.{Less, Equal, Greater}
use Rattle.std.specs.Cmp.Lexicographic.{slice_cmp}
use Rattle.std.specs.List.{AllByRecursion}
use Rattle.std.specs.List.Sorted.{IsStrictlySortedBy}
use Rattle.std.specs.Map.{keys_of}
use Rattle.std.proofs.lemmas.Cmp.{nat_list_cmp_total}
use Rattle.std.proofs.lemmas.Slice.Eq.{bytes_eq-Decides}
use Rattle.std.proofs.lemmas.Map.Text.{is_eq-slice_cmp}
use Rattle.wc_value.specs.Ascending.{Ascends, before, lookup, put}
use Rattle.wc_value.proofs.Puts.{same_name}

-- ---- a value put by its name

less_differs : (o : Ordering) → is_lt o ≡ true → is_eq o ≡ false
less_differs Less h = refl
less_differs Equal h = absurd (cc)
less_differs Greater h = refl

before_differs : (a name : List ℕ) → before a name ≡ true → bytes_eq a name ≡ false
before_differs a name h = sym (is_eq-slice_cmp a name) ∙ less_differs (slice_cmp nat_cmp a name) h

first_found : {T : Type 0} (name : List ℕ) (v : T) (es : List (List ℕ × T)) → lookup name ((name, v) ∷ es) ≡ Some v
first_found name v es = ap (λ (b : Bool). if b then Some v else lookup name es) ((bytes_eq-Decides name name).1 refl)

pub put_found : {T : Type 0} (name : List ℕ) (v : T) (es : List (List ℕ × T)) → lookup name (put name v es) ≡ Some v
put_found name v [] = first_found name v []
put_found {T} name v (e ∷ es) = at (before e.0 name) (bytes_eq e.0 name) refl (put_found name v es)
  where
    at : (b c : Bool) → before e.0 name ≡ b → lookup name (put name v es) ≡ Some v
        → lookup name (if b then e ∷ put name v es else if c then (name, v) ∷ es else (name, v) ∷ e ∷ es) ≡ Some v
    at true c p rest = ap (λ (b : Bool). if b then Some e.1 else lookup name (put name v es)) (before_differs e.0 name p) ∙ rest
    at false true p rest = first_found name v es
    at false false p rest = first_found name v (e ∷ es)

pub put_passed : {T : Type 0} (key name : List ℕ) (v : T) (es : List (List ℕ × T)) → bytes_eq name key ≡ false → lookup key (put name v es) ≡ lookup key es
put_passed key name v [] d = ap (λ (b : Bool). if b then Some v else None) d
put_passed {T} key name v (e ∷ es) d = at (before e.0 name) (bytes_eq e.0 name) refl (put_passed key name v es d)
  where
    at : (b c : Bool) → bytes_eq e.0 name ≡ c → lookup key (put name v es) ≡ lookup key es
        → lookup key (if b then e ∷ put name v es else if c then (name, v) ∷ es else (name, v) ∷ e ∷ es) ≡ lookup key (e ∷ es)
    at true c q rest = ap (λ (o : Option T). if bytes_eq e.0 key then Some e.1 else o) rest
    at false true q rest =
        let differs : bytes_eq e.0 key ≡ false = ap (λ (a : List ℕ). bytes_eq a key) (same_name e.0 name q) ∙ d in
        ap (λ (b : Bool). if b then Some v else lookup key es) d ∙ sym (ap (λ (b : Bool). if b then Some e.1 else lookup key es) differs)
    at false false q rest = ap (λ (b : Bool). if b then Some v else lookup key (e ∷ es)) d

-- ---- ascending entries

differs_at : (a b : List ℕ) (same : Bool) → bytes_eq b a ≡ same → slice_cmp nat_cmp a b ≡ Less → same ≡ false
differs_at a b true e h =
    let k : slice_cmp nat_cmp a a ≡ Less = ap (slice_cmp nat_cmp a) (sym (same_name b a e)) ∙ h in
    let m : is_eq (slice_cmp nat_cmp a a) ≡ true = is_eq-slice_cmp a a ∙ (bytes_eq-Decides a a).1 refl in
    let n : false ≡ true = sym (ap is_eq k) ∙ m in absurd (cc)
differs_at a b false e h = refl

differs_after : (a b : List ℕ) → slice_cmp nat_cmp a b ≡ Less → bytes_eq b a ≡ false
differs_after a b h = differs_at a b (bytes_eq b a) refl h

-- what comes before all names isn't among them
absent : {T : Type 0} (name : List ℕ) (es : List (List ℕ × T)) → AllByRecursion (λ k. slice_cmp nat_cmp name k ≡ Less) (keys_of es) → lookup name es ≡ None
absent name [] a = refl
absent name (e ∷ es) a = ap (λ (b : Bool). if b then Some e.1 else lookup name es) (differs_after name e.0 a.0) ∙ absent name es a.1

after_first : (a b : List ℕ) (ks : List (List ℕ)) → slice_cmp nat_cmp a b ≡ Less → AllByRecursion (λ k. slice_cmp nat_cmp b k ≡ Less) ks
    → AllByRecursion (λ k. slice_cmp nat_cmp a k ≡ Less) ks
after_first a b [] h p = tt
after_first a b (k ∷ ks) h p = (nat_list_cmp_total.trans a b k h p.0, after_first a b ks h p.1)

is_first : {T : Type 0} (e : List ℕ × T) (es : List (List ℕ × T)) → lookup e.0 (e ∷ es) ≡ Some e.1
is_first e es = ap (λ (b : Bool). if b then Some e.1 else lookup e.0 es) ((bytes_eq-Decides e.0 e.0).1 refl)

-- what is looked up in the entries behind the first
tail_at : {T : Type 0} (k : List ℕ) (e d : List ℕ × T) (es ds : List (List ℕ × T)) (b : Bool) → bytes_eq e.0 k ≡ b → e.0 ≡ d.0
    → AllByRecursion (λ k. slice_cmp nat_cmp e.0 k ≡ Less) (keys_of es) → AllByRecursion (λ k. slice_cmp nat_cmp d.0 k ≡ Less) (keys_of ds)
    → lookup k (e ∷ es) ≡ lookup k (d ∷ ds) → lookup k es ≡ lookup k ds
tail_at {T} k e d es ds true p q a c h =
    let s : e.0 ≡ k = same_name e.0 k p in
    ap (λ n. lookup n es) (sym s) ∙ absent e.0 es a ∙ sym (absent d.0 ds c) ∙ ap (λ n. lookup n ds) (sym q ∙ s)
tail_at {T} k e d es ds false p q a c h =
    sym (ap (λ (b : Bool). if b then Some e.1 else lookup k es) p) ∙ h ∙ ap (λ (b : Bool). if b then Some d.1 else lookup k ds) (ap (λ n. bytes_eq n k) (sym q) ∙ p)

none_some : {T : Type 0} (A : Type 0) (o : Option T) (v : T) → o ≡ None → o ≡ Some v → A
none_some A o v p q = absurd (cc)

-- ascending entries in which the same is looked up are the same
pub same_entries : {T : Type 0} (es ds : List (List ℕ × T)) → Ascends es → Ascends ds → ((k : List ℕ) → lookup k es ≡ lookup k ds) → es ≡ ds
unfolding IsStrictlySortedBy
same_entries [] [] a c h = refl
same_entries [] (d ∷ ds) a c h = none_some _ (lookup d.0 (d ∷ ds)) d.1 (sym (h d.0)) (is_first d ds)
same_entries (e ∷ es) [] a c h = none_some _ (lookup e.0 (e ∷ es)) e.1 (h e.0) (is_first e es)
same_entries {T} (e ∷ es) (d ∷ ds) a c h = by_order (slice_cmp nat_cmp e.0 d.0) refl (λ same. same_entries es ds a.1 c.1 same)
  where
    by_order : (o : Ordering) → slice_cmp nat_cmp e.0 d.0 ≡ o → (((k : List ℕ) → lookup k es ≡ lookup k ds) → es ≡ ds) → e ∷ es ≡ d ∷ ds
    by_order Less p tails =
        none_some _ (lookup e.0 (d ∷ ds)) e.1 (absent e.0 (d ∷ ds) (p, after_first e.0 d.0 (keys_of ds) p c.0)) (sym (h e.0) ∙ is_first e es)
    by_order Greater p tails =
        let q : slice_cmp nat_cmp d.0 e.0 ≡ Less = nat_list_cmp_total.antisymm d.0 e.0 ∙ ap ordering_reverse p in
        none_some _ (lookup d.0 (e ∷ es)) d.1 (absent d.0 (e ∷ es) (q, after_first d.0 e.0 (keys_of es) q a.0)) (h d.0 ∙ is_first d ds)
    by_order Equal p tails =
        let same : e.0 ≡ d.0 = same_name e.0 d.0 (sym (is_eq-slice_cmp e.0 d.0) ∙ ap is_eq p) in
        let found : Some e.1 ≡ Some d.1 = sym (is_first e es) ∙ h e.0 ∙ ap (λ n. lookup n (d ∷ ds)) same ∙ is_first d ds in
        let value : e.1 ≡ d.1 = cc in
        let rest : es ≡ ds = tails (λ k. tail_at k e d es ds (bytes_eq e.0 k) refl same a.0 c.0 (h k)) in
        λ i. (same i, value i) ∷ rest i
