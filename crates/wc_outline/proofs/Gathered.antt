-- Lists that are put together in a loop, one item after the other.
use Rattle.std.proofs.Common.{◌≡◌, ◌<◌, ◌≤◌, ◌+◌, ℕ, List, [], ◌∷◌, ◌++◌, sym, ap, ◌∙◌, map, length, get_or, take, drop, append-nil, append_assoc}
use Rattle.std.specs.Prelude.{flat_map, Result, Ok, Err, OnOk, IfOk}
use Rattle.std.proofs.lemmas.List.{take_more, take_all, map-append, at_drop_more}

flat_last : {A B : Type 0} (f : A → List B) (xs : List A) (x : A) → flat_map f (xs ++ x ∷ []) ≡ flat_map f xs ++ f x
flat_last f [] x = append-nil (f x)
flat_last f (y ∷ xs) x = ap (λ ys. f y ++ ys) (flat_last f xs x) ∙ sym (append_assoc (f y) (flat_map f xs) (f x))

-- what is seen of a list at whose end an item is put
pub map_put : {A B : Type 0} (f : A → B) (before now : List A) (x : A) → now ≡ before ++ x ∷ [] → map f now ≡ map f before ++ f x ∷ []
map_put f before now x h = ap (map f) h ∙ map-append f before (x ∷ [])

pub take_next : {A : Type 0} (xs : List A) (i : ℕ) (x : A) → i < length xs → x ≡ get_or xs i x → take (i + 1) xs ≡ take i xs ++ x ∷ []
take_next xs i x h e = take_more xs i x h ∙ ap (λ y. take i xs ++ y ∷ []) (sym e)

-- one item more
pub flat_turn : {A B : Type 0} (f : A → List B) (before now new : List B) (xs : List A) (i : ℕ) (x : A)
    → now ≡ before ++ flat_map f (take i xs) → new ≡ now ++ f x → i < length xs → x ≡ get_or xs i x → new ≡ before ++ flat_map f (take (i + 1) xs)
flat_turn f before now new xs i x p q h e =
    q ∙ ap (λ ys. ys ++ f x) p ∙ append_assoc before (flat_map f (take i xs)) (f x)
    ∙ ap (λ ys. before ++ ys) (sym (flat_last f (take i xs) x) ∙ ap (flat_map f) (sym (take_next xs i x h e)))

-- the whole list
pub flat_whole : {A B : Type 0} (f : A → List B) (before now : List B) (xs : List A) (i : ℕ) → now ≡ before ++ flat_map f (take i xs) → length xs ≤ i
    → now ≡ before ++ flat_map f xs
flat_whole f before now xs i p h = p ∙ ap (λ ys. before ++ flat_map f ys) (take_all i xs h)

-- two lists, put at the end one after the other
pub two : {A : Type 0} (s₀ s₁ s₂ a b all : List A) → s₁ ≡ s₀ ++ a → s₂ ≡ s₁ ++ b → all ≡ a ++ b → s₂ ≡ s₀ ++ all
two s₀ s₁ s₂ a b all p q h = q ∙ ap (λ s. s ++ b) p ∙ append_assoc s₀ a b ∙ ap (λ s. s₀ ++ s) (sym h)

-- what holds of an Ok
pub on_ok : {A E P Q : Type 0} (r : Result A E) → (P → Q) → OnOk r P → OnOk r Q
on_ok (Ok x) f p = f p
on_ok (Err e) f p = tt

-- what is left of a list at a place, by the item there
pub next : {A B : Type 0} (f : List A → B) (xs : List A) (i : ℕ) (x : A) → i < length xs → x ≡ get_or xs i x → f (drop i xs) ≡ f (x ∷ drop (i + 1) xs)
next f xs i x h e = at_drop_more f xs i x h ∙ ap (λ y. f (y ∷ drop (i + 1) xs)) (sym e)

-- what holds of an Ok by what is known of it
pub if_ok : {A E : Type 0} (P Q : A → Type 0) (r : Result A E) → ((x : A) → P x → Q x) → IfOk r P → IfOk r Q
if_ok P Q (Ok x) f p = f x p
if_ok P Q (Err e) f p = tt
