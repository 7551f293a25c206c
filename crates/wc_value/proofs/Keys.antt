-- Keys of entries, and lists in which nothing stands twice.
use Rattle.std.proofs.Common.{◌≡◌, ◌≢◌, ℕ, zero, suc, ◌+◌, ◌<◌, List, [], ◌∷◌, ◌++◌, length, take, get_or, refl, sym, ap, subst, ◌∙◌, arith}
use Rattle.std.proofs.lemmas.List.{take_more}
use Rattle.std.proofs.lemmas.List.Quantifiers.{all_pairs_push}
use Rattle.std.specs.List.{Contains}
use Rattle.std.specs.Map.{keys_of}
use Rattle.wc_value.specs.Requests.{IsDistinct}

length_keys : {K V : Type 0} (es : List (K × V)) → length (keys_of es) ≡ length es
length_keys [] = refl
length_keys (e ∷ es) = ap suc (length_keys es)

key_at : {K V : Type 0} (es : List (K × V)) (k : ℕ) (q : K) (d : K × V) → k < length es → get_or (keys_of es) k q ≡ (get_or es k d).0
key_at [] k q d h = absurd (omega arith)
key_at (e ∷ es) zero q d h = refl
key_at (e ∷ es) (suc k) q d h = key_at es k q d (omega arith)

keys_end : {K V : Type 0} (es : List (K × V)) (e : K × V) → keys_of (es ++ e ∷ []) ≡ keys_of es ++ e.0 ∷ []
keys_end [] e = refl
keys_end (f ∷ es) e = ap (λ l. f.0 ∷ l) (keys_end es e)

-- a key stands at a place
pub contains_key : {K V : Type 0} (es : List (K × V)) (k : ℕ) (q : K) (d : K × V) → k < length es → (get_or es k d).0 ≡ q → Contains (keys_of es) q
contains_key es k q d h e = let l = length_keys es in (k, omega arith, key_at es k q d h ∙ e)

-- a key stands at no place
pub lacks_key : {K V : Type 0} (es : List (K × V)) (q : K) → ((k : ℕ) (d : K × V) → k < length es → (get_or es k d).0 ≡ q → ⊥) → Contains (keys_of es) q → ⊥
lacks_key [] q h c = let lt = c.1 in omega arith
lacks_key (e ∷ es) q h c =
    let l = length_keys (e ∷ es) in
    let lt = c.1 in
    let within : c.0 < length (e ∷ es) = omega arith in
    h c.0 e within (sym (key_at (e ∷ es) c.0 q e within) ∙ c.2)

same_place : {A : Type 0} (xs : List A) (k : ℕ) (d y : A) → k < length xs → get_or xs k d ≡ y → get_or xs k y ≡ y
same_place [] k d y h e = absurd (omega arith)
same_place (x ∷ xs) zero d y h e = e
same_place (x ∷ xs) (suc k) d y h e = same_place xs k d y (omega arith) e

pub distinct_push : {A : Type 0} (xs : List A) (y : A) → IsDistinct xs → (Contains xs y → ⊥) → IsDistinct (xs ++ y ∷ [])
distinct_push xs y h lacks = all_pairs_push (λ a b. a ≢ b) xs y h (λ k d lt e. lacks (k, lt, same_place xs k d y lt e))

-- one more row whose request is new
pub distinct_more : {K V : Type 0} (es : List (K × V)) (i : ℕ) (e d : K × V) → i < length es → e ≡ get_or es i d → IsDistinct (keys_of (take i es)) → (Contains (keys_of (take i es)) e.0 → ⊥)
    → IsDistinct (keys_of (take (i + 1) es))
distinct_more es i e d h is distinct lacks =
    subst IsDistinct (sym (keys_end (take i es) e) ∙ ap (λ x. keys_of (take i es ++ x ∷ [])) is ∙ sym (ap keys_of (take_more es i d h)))
    (distinct_push (keys_of (take i es)) e.0 distinct lacks)
