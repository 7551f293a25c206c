-- A name's value set among entries in order.
use Rattle.std.proofs.Common.{◌≡◌, ℕ, suc, List, [], ◌∷◌, Bool, true, false, if◌then◌else◌, refl, sym, ap, subst, ◌∙◌}
use Rattle.std.proofs.lemmas.Cmp.{nat_list_cmp_total}
use Rattle.std.proofs.lemmas.Slice.Eq.{bytes_eq-Decides}
use Rattle.std.proofs.lemmas.Map.Text.{is_eq-slice_cmp}
use Rattle.std.specs.Prelude.{insert, slice_get, slice_set}
use Rattle.std.specs.Ordering.{nat_cmp, is_lt, is_eq, ordering_reverse}
use Rattle.std.specs.declared.cmp.Ordering.{Ordering}
use Rattle.std.specs.declared.cmp.Ordering.TheVariants.{Less, Equal, Greater}
use Rattle.std.specs.Cmp.Lexicographic.{slice_cmp}
use Rattle.std.specs.Str.{bytes_eq}
use Rattle.std.specs.List.{AllByRecursion}
use Rattle.std.specs.List.Sorted.{IsStrictlySortedBy}
use Rattle.std.specs.Map.{keys_of}
use Rattle.wc_value.specs.Ascending.{Ascends, before, put, place, is_named}

replaces_at : {T : Type 0} (name : List ℕ) (v : T) (e : List ℕ × T) (es : List (List ℕ × T)) (k : ℕ) (b : Bool)
    → (is_named name (slice_get es k) ≡ true → slice_set es k (name, v) ≡ put name v es)
    → is_named name (slice_get (e ∷ es) (if b then suc k else 0)) ≡ true
    → slice_set (e ∷ es) (if b then suc k else 0) (name, v)
    ≡ (if b then e ∷ put name v es else if bytes_eq e.0 name then (name, v) ∷ es else (name, v) ∷ e ∷ es)
replaces_at name v e es k true rest h = ap (λ l. e ∷ l) (rest h)
replaces_at {T} name v e es k false rest h = ap (λ (c : Bool). if c then (name, v) ∷ es else (name, v) ∷ e ∷ es) (sym h)

-- in place of the one that has the name
pub put_replaces : {T : Type 0} (name : List ℕ) (v : T) (es : List (List ℕ × T)) → is_named name (slice_get es (place name es)) ≡ true
    → slice_set es (place name es) (name, v) ≡ put name v es
put_replaces name v [] h = absurd (cc)
put_replaces name v (e ∷ es) h = replaces_at name v e es (place name es) (before e.0 name) (put_replaces name v es) h

inserts_at : {T : Type 0} (name : List ℕ) (v : T) (e : List ℕ × T) (es : List (List ℕ × T)) (k : ℕ) (b : Bool)
    → (is_named name (slice_get es k) ≡ false → insert es k (name, v) ≡ put name v es)
    → is_named name (slice_get (e ∷ es) (if b then suc k else 0)) ≡ false
    → insert (e ∷ es) (if b then suc k else 0) (name, v)
    ≡ (if b then e ∷ put name v es else if bytes_eq e.0 name then (name, v) ∷ es else (name, v) ∷ e ∷ es)
inserts_at name v e es k true rest h = ap (λ l. e ∷ l) (rest h)
inserts_at {T} name v e es k false rest h = ap (λ (c : Bool). if c then (name, v) ∷ es else (name, v) ∷ e ∷ es) (sym h)

-- as a new entry, where none has the name
pub put_inserts : {T : Type 0} (name : List ℕ) (v : T) (es : List (List ℕ × T)) → is_named name (slice_get es (place name es)) ≡ false
    → insert es (place name es) (name, v) ≡ put name v es
put_inserts name v [] h = refl
put_inserts name v (e ∷ es) h = inserts_at name v e es (place name es) (before e.0 name) (put_inserts name v es) h

-- ---- in order
pub same_name : (a b : List ℕ) → bytes_eq a b ≡ true → a ≡ b
same_name a b h = (bytes_eq-Decides a b).0 h

pub is_less : (o : Ordering) → is_lt o ≡ true → o ≡ Less
is_less Less h = refl
is_less Equal h = absurd (cc)
is_less Greater h = absurd (cc)

-- what is neither before nor equal comes after
other_way : (o : Ordering) → is_lt o ≡ false → is_eq o ≡ false → ordering_reverse o ≡ Less
other_way Less p q = absurd (cc)
other_way Equal p q = absurd (cc)
other_way Greater p q = refl

pub comes_after : (a b : List ℕ) → before a b ≡ false → bytes_eq a b ≡ false → slice_cmp nat_cmp b a ≡ Less
comes_after a b p q = nat_list_cmp_total.antisymm b a ∙ other_way (slice_cmp nat_cmp a b) p (is_eq-slice_cmp a b ∙ q)

all_put : {T : Type 0} (P : List ℕ → Type 0) (name : List ℕ) (v : T) (es : List (List ℕ × T)) → AllByRecursion P (keys_of es) → P name
    → AllByRecursion P (keys_of (put name v es))
all_put P name v [] a p = (p, tt)
all_put {T} P name v (e ∷ es) a p = all_at (before e.0 name) (bytes_eq e.0 name) (all_put P name v es a.1 p)
  where
    all_at : (b c : Bool) → AllByRecursion P (keys_of (put name v es)) → AllByRecursion P (keys_of (if b then e ∷ put name v es else if c then (name, v) ∷ es else (name, v) ∷ e ∷ es))
    all_at true c rest = (a.0, rest)
    all_at false true rest = (p, a.1)
    all_at false false rest = (p, a)

pub all_after : {T : Type 0} (a b : List ℕ) (es : List (List ℕ × T)) → slice_cmp nat_cmp a b ≡ Less
    → AllByRecursion (λ k. slice_cmp nat_cmp b k ≡ Less) (keys_of es) → AllByRecursion (λ k. slice_cmp nat_cmp a k ≡ Less) (keys_of es)
all_after a b [] h p = tt
all_after a b (e ∷ es) h p = (nat_list_cmp_total.trans a b e.0 h p.0, all_after a b es h p.1)

-- entries in order stay so
pub ascends_put : {T : Type 0} (name : List ℕ) (v : T) (es : List (List ℕ × T)) → Ascends es → Ascends (put name v es)
unfolding IsStrictlySortedBy
ascends_put name v [] a = (tt, tt)
ascends_put {T} name v (e ∷ es) a = ascends_at (before e.0 name) (bytes_eq e.0 name) refl refl (ascends_put name v es a.1)
  where
    ascends_at : (b c : Bool) → before e.0 name ≡ b → bytes_eq e.0 name ≡ c → Ascends (put name v es)
        → Ascends (if b then e ∷ put name v es else if c then (name, v) ∷ es else (name, v) ∷ e ∷ es)
    ascends_at true c p q rest = (all_put _ name v es a.0 (is_less _ p), rest)
    ascends_at false true p q rest = subst (λ (k : List ℕ). Ascends ((k, v) ∷ es)) (same_name e.0 name q) (a.0, a.1)
    ascends_at false false p q rest = let below = comes_after e.0 name p q in ((below, all_after name e.0 es below a.0), a)

-- the same at a place that is known by an equation
pub replaced : {T : Type 0} (name : List ℕ) (v : T) (es : List (List ℕ × T)) (at : ℕ) → at ≡ place name es
    → is_named name (slice_get es at) ≡ true → slice_set es at (name, v) ≡ put name v es
replaced {T} name v es at p h =
    ap (λ (k : ℕ). slice_set es k (name, v)) p ∙ put_replaces name v es (ap (λ (k : ℕ). is_named name (slice_get es k)) (sym p) ∙ h)

pub inserted : {T : Type 0} (name : List ℕ) (v : T) (es : List (List ℕ × T)) (at : ℕ) → at ≡ place name es
    → is_named name (slice_get es at) ≡ false → insert es at (name, v) ≡ put name v es
inserted {T} name v es at p h =
    ap (λ (k : ℕ). insert es k (name, v)) p ∙ put_inserts name v es (ap (λ (k : ℕ). is_named name (slice_get es k)) (sym p) ∙ h)
