-- Where a name belongs among entries in order.
use Rattle.std.proofs.Common.{◌≡◌, ℕ, zero, suc, ◌<◌, ◌≤◌, List, [], ◌∷◌, Bool, true, false, if◌then◌else◌, length, get_or, refl, sym, ap, subst, ◌∙◌, arith}
use Rattle.std.proofs.lemmas.Cmp.{nat_list_cmp_total}
use Rattle.std.proofs.lemmas.Map.Text.{is_eq-slice_cmp}
use Rattle.std.specs.Prelude.{Some, None, slice_get}
use Rattle.std.specs.Ordering.{nat_cmp, is_lt, is_eq, ordering_reverse}
use Rattle.std.specs.declared.cmp.Ordering.TheVariants.{Less}
use Rattle.std.specs.Cmp.Lexicographic.{slice_cmp}
use Rattle.std.specs.Str.{bytes_eq}
use Rattle.std.specs.List.{AllByRecursion}
use Rattle.std.specs.List.Sorted.{IsStrictlySortedBy}
use Rattle.std.specs.Map.{keys_of}
use Rattle.wc_value.specs.Ascending.{Ascends, before, place, lookup, value_named}
use Rattle.wc_value.proofs.Puts.{is_less, comes_after, all_after}

all_at : {T : Type 0} (P : List ℕ → Type 0) (es : List (List ℕ × T)) (k : ℕ) (e d : List ℕ × T) → AllByRecursion P (keys_of es) → k < length es → e ≡ get_or es k d → P e.0
all_at P [] k e d a h is = absurd (omega arith)
all_at {T} P (f ∷ es) zero e d a h is = subst (λ (x : List ℕ × T). P x.0) (sym is) a.0
all_at P (f ∷ es) (suc k) e d a h is = all_at P es k e d a.1 (omega arith) is

-- the name belongs behind an entry that stands before it
pub place_behind : {T : Type 0} (name : List ℕ) (es : List (List ℕ × T)) (k : ℕ) (e d : List ℕ × T) → Ascends es → k < length es → e ≡ get_or es k d
    → before e.0 name ≡ true → k < place name es
unfolding IsStrictlySortedBy
place_behind name [] k e d a h is b = absurd (omega arith)
place_behind {T} name (f ∷ es) zero e d a h is b =
    let p : before f.0 name ≡ true = ap (λ (x : List ℕ × T). before x.0 name) (sym is) ∙ b in
    subst (λ (c : Bool). 0 < (if c then suc (place name es) else 0)) (sym p) (omega arith)
place_behind name (f ∷ es) (suc k) e d a h is b =
    let r : k < place name es = place_behind name es k e d a.1 (omega arith) is b in
    let p : before f.0 name ≡ true = ap is_lt (nat_list_cmp_total.trans f.0 e.0 name (all_at _ es k e d a.0 (omega arith) is) (is_less _ b)) in
    subst (λ (c : Bool). suc k < (if c then suc (place name es) else 0)) (sym p) (omega arith)

bounded : (b : Bool) (m k : ℕ) → m ≤ k → (if b then suc m else 0) ≤ suc k
bounded true m k h = omega arith
bounded false m k h = omega arith

-- and not behind one that doesn't
pub place_not_behind : {T : Type 0} (name : List ℕ) (es : List (List ℕ × T)) (k : ℕ) (e d : List ℕ × T) → k < length es → e ≡ get_or es k d
    → before e.0 name ≡ false → place name es ≤ k
place_not_behind name [] k e d h is b = absurd (omega arith)
place_not_behind {T} name (f ∷ es) zero e d h is b =
    let p : before f.0 name ≡ false = ap (λ (x : List ℕ × T). before x.0 name) (sym is) ∙ b in
    subst (λ (c : Bool). (if c then suc (place name es) else 0) ≤ 0) (sym p) (omega arith)
place_not_behind name (f ∷ es) (suc k) e d h is b = bounded (before f.0 name) (place name es) k (place_not_behind name es k e d (omega arith) is b)

pub place_within : {T : Type 0} (name : List ℕ) (es : List (List ℕ × T)) → place name es ≤ length es
place_within name [] = omega arith
place_within name (e ∷ es) = bounded (before e.0 name) (place name es) (length es) (place_within name es)

-- ---- the one that has the name
lacks : {T : Type 0} (name : List ℕ) (es : List (List ℕ × T)) → AllByRecursion (λ k. slice_cmp nat_cmp name k ≡ Less) (keys_of es) → lookup name es ≡ None
lacks name [] a = refl
lacks {T} name (e ∷ es) a =
    let differs : bytes_eq e.0 name ≡ false = sym (is_eq-slice_cmp e.0 name) ∙ ap is_eq (nat_list_cmp_total.antisymm e.0 name ∙ ap ordering_reverse a.0) in
    ap (λ (c : Bool). if c then Some e.1 else lookup name es) differs ∙ lacks name es a.1

-- an entry with the name stands in the name's place
pub lookup_at_place : {T : Type 0} (name : List ℕ) (es : List (List ℕ × T)) → Ascends es → value_named name (slice_get es (place name es)) ≡ lookup name es
unfolding IsStrictlySortedBy
lookup_at_place name [] a = refl
lookup_at_place {T} name (e ∷ es) a = at (before e.0 name) (bytes_eq e.0 name) refl refl (lookup_at_place name es a.1)
  where
    at : (b c : Bool) → before e.0 name ≡ b → bytes_eq e.0 name ≡ c → value_named name (slice_get es (place name es)) ≡ lookup name es
        → value_named name (slice_get (e ∷ es) (if b then suc (place name es) else 0)) ≡ (if c then Some e.1 else lookup name es)
    at true true p q rest =
        let same : is_eq (slice_cmp nat_cmp e.0 name) ≡ true = is_eq-slice_cmp e.0 name ∙ q in
        let other : is_eq (slice_cmp nat_cmp e.0 name) ≡ false = ap is_eq (is_less _ p) in
        absurd (cc)
    at true false p q rest = rest
    at false true p q rest = ap (λ (c : Bool). if c then Some e.1 else None) q
    at false false p q rest = ap (λ (c : Bool). if c then Some e.1 else None) q ∙ sym (lacks name es (all_after name e.0 es (comes_after e.0 name p q) a.0))
