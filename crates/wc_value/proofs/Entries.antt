-- Entries in order, cut and copied.
use Rattle.std.proofs.Common.{◌≡◌, ℕ, zero, suc, ◌+◌, ◌-◌, ◌<◌, List, [], ◌∷◌, ◌++◌, length, take, get_or, refl, subst, sym, ◌∙◌, ap, arith}
use Rattle.std.proofs.lemmas.List.{take_more}
use Rattle.std.proofs.lemmas.Cmp.{nat_list_cmp_total}
use Rattle.std.specs.Prelude.{Bool, true, Option, Some, None, slice_get}
use Rattle.std.specs.Ordering.{nat_cmp, is_lt}
use Rattle.std.specs.declared.cmp.Ordering.{Ordering}
use Rattle.std.specs.declared.cmp.Ordering.TheVariants.{Less, Equal, Greater}
use Rattle.std.specs.Cmp.Lexicographic.{slice_cmp}
use Rattle.std.specs.List.{AllByRecursion}
use Rattle.std.specs.List.Sorted.{IsStrictlySortedBy}
use Rattle.std.specs.Map.{keys_of}
use Rattle.wc_value.specs.Ascending.{Ascends, before, goes_last}

all_take : {T : Type 0} (P : List ℕ → Type 0) (n : ℕ) (es : List (List ℕ × T)) → AllByRecursion P (keys_of es) → AllByRecursion P (keys_of (take n es))
all_take P zero es a = tt
all_take P (suc n) [] a = tt
all_take P (suc n) (e ∷ es) a = (a.0, all_take P n es a.1)

pub ascends_take : {T : Type 0} (n : ℕ) (es : List (List ℕ × T)) → Ascends es → Ascends (take n es)
unfolding IsStrictlySortedBy
ascends_take zero es a = tt
ascends_take (suc n) [] a = tt
ascends_take (suc n) (e ∷ es) a = (all_take _ n es a.0, ascends_take n es a.1)

-- a copy of the first entries, with the next one at its end
pub ascends_next : {T : Type 0} (es copies : List (List ℕ × T)) (i : ℕ) (e d : List ℕ × T) → Ascends es → i < length es → copies ≡ take i es → e ≡ get_or es i d → Ascends (copies ++ e ∷ [])
ascends_next es copies i e d a h p q =
    subst Ascends (take_more es i d h ∙ (λ j. sym p j ++ sym q j ∷ [])) (ascends_take (i + 1) es a)

-- ---- an entry at the end
-- the name comes after the entry, if there is one
abbrev pub after : {T : Type 0} → List ℕ → Option (List ℕ × T) → Bool
after name None = true
after name (Some e) = before e.0 name

pub goes_last_is : {T : Type 0} (name : List ℕ) (es : List (List ℕ × T)) → after name (slice_get es (length es - 1)) ≡ goes_last name es
goes_last_is name [] = refl
goes_last_is name (e ∷ []) = refl
goes_last_is name (e ∷ f ∷ es) =
    let p : length (e ∷ f ∷ es) - 1 ≡ suc (length es) = omega arith in
    let q : length es ≡ length (f ∷ es) - 1 = omega arith in
    ap (λ n. after name (slice_get (e ∷ f ∷ es) n)) p ∙ ap (λ n. after name (slice_get (f ∷ es) n)) q ∙ goes_last_is name (f ∷ es)

is_less : (o : Ordering) → is_lt o ≡ true → o ≡ Less
is_less Less h = refl
is_less Equal h = absurd (cc)
is_less Greater h = absurd (cc)

first_below : {T : Type 0} (name : List ℕ) (e : List ℕ × T) (es : List (List ℕ × T)) → Ascends (e ∷ es) → goes_last name (e ∷ es) ≡ true → slice_cmp nat_cmp e.0 name ≡ Less
unfolding IsStrictlySortedBy
first_below name e [] a h = is_less _ h
first_below name e (f ∷ es) a h = nat_list_cmp_total.trans e.0 f.0 name a.0.0 (first_below name f es a.1 h)

all_and : {T : Type 0} (P : List ℕ → Type 0) (es : List (List ℕ × T)) (e : List ℕ × T) → AllByRecursion P (keys_of es) → P e.0 → AllByRecursion P (keys_of (es ++ e ∷ []))
all_and P [] e a p = (p, tt)
all_and P (f ∷ es) e a p = (a.0, all_and P es e a.1 p)

rest_last : {T : Type 0} (name : List ℕ) (e : List ℕ × T) (es : List (List ℕ × T)) → goes_last name (e ∷ es) ≡ true → goes_last name es ≡ true
rest_last name e [] h = refl
rest_last name e (f ∷ es) h = h

-- entries in order stay so with one at the end whose name comes after the last
pub ascends_push : {T : Type 0} (es : List (List ℕ × T)) (e : List ℕ × T) → Ascends es → goes_last e.0 es ≡ true → Ascends (es ++ e ∷ [])
unfolding IsStrictlySortedBy
ascends_push [] e a h = (tt, tt)
ascends_push (f ∷ es) e a h = (all_and _ es e a.0 (first_below e.0 f es a h), ascends_push es e a.1 (rest_last e.0 f es h))

-- in entries in order the last name comes after those before it
pub last_goes : {T : Type 0} (es : List (List ℕ × T)) (e : List ℕ × T) → Ascends (es ++ e ∷ []) → goes_last e.0 es ≡ true
unfolding IsStrictlySortedBy
last_goes [] e a = refl
last_goes (f ∷ []) e a = ap is_lt a.0.0
last_goes (f ∷ g ∷ es) e a = last_goes (g ∷ es) e a.1
