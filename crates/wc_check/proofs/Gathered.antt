-- Lists that are put together in a loop, one item after the other.
use Rattle.std.proofs.Common.{◌≡◌, ◌<◌, ◌≤◌, ◌+◌, ℕ, List, [], ◌∷◌, ◌++◌, refl, sym, ap, ◌∙◌, map, length, get_or, take, append-nil, append_assoc}
use Rattle.std.specs.Prelude.{flat_map}
use Rattle.std.proofs.lemmas.List.{take_more, take_all}

map_last : {A B : Type 0} (f : A → B) (xs : List A) (x : A) → map f (xs ++ x ∷ []) ≡ map f xs ++ f x ∷ []
map_last f [] x = refl
map_last f (y ∷ xs) x = ap (λ ys. f y ∷ ys) (map_last f xs x)

flat_last : {A B : Type 0} (f : A → List B) (xs : List A) (x : A) → flat_map f (xs ++ x ∷ []) ≡ flat_map f xs ++ f x
flat_last f [] x = append-nil (f x)
flat_last f (y ∷ xs) x = ap (λ ys. f y ++ ys) (flat_last f xs x) ∙ sym (append_assoc (f y) (flat_map f xs) (f x))

take_next : {A : Type 0} (xs : List A) (i : ℕ) (x : A) → i < length xs → x ≡ get_or xs i x → take (i + 1) xs ≡ take i xs ++ x ∷ []
take_next xs i x h e = take_more xs i x h ∙ ap (λ y. take i xs ++ y ∷ []) (sym e)

-- ---- one item more
turn : {A B : Type 0} (all : List A → List B) (one : A → List B) (step : (ys : List A) (y : A) → all (ys ++ y ∷ []) ≡ all ys ++ one y) (before now new : List B) (xs : List A) (i : ℕ) (x : A)
    → now ≡ before ++ all (take i xs) → new ≡ now ++ one x → i < length xs → x ≡ get_or xs i x → new ≡ before ++ all (take (i + 1) xs)
turn all one step before now new xs i x p q h e =
    q ∙ ap (λ ys. ys ++ one x) p ∙ append_assoc before (all (take i xs)) (one x)
    ∙ ap (λ ys. before ++ ys) (sym (step (take i xs) x) ∙ ap all (sym (take_next xs i x h e)))

pub map_turn : {A B : Type 0} (f : A → B) (before now new : List B) (xs : List A) (i : ℕ) (x : A)
    → now ≡ before ++ map f (take i xs) → new ≡ now ++ f x ∷ [] → i < length xs → x ≡ get_or xs i x → new ≡ before ++ map f (take (i + 1) xs)
map_turn f = turn (map f) (λ x. f x ∷ []) (map_last f)

pub flat_turn : {A B : Type 0} (f : A → List B) (before now new : List B) (xs : List A) (i : ℕ) (x : A)
    → now ≡ before ++ flat_map f (take i xs) → new ≡ now ++ f x → i < length xs → x ≡ get_or xs i x → new ≡ before ++ flat_map f (take (i + 1) xs)
flat_turn f = turn (flat_map f) f (flat_last f)

-- the same, where the items are seen by g
pub seen_turn : {X A B : Type 0} (f : A → List B) (g : X → A) (before now new : List B) (xs : List X) (i : ℕ) (x : X)
    → now ≡ before ++ flat_map f (map g (take i xs)) → new ≡ now ++ f (g x) → i < length xs → x ≡ get_or xs i x → new ≡ before ++ flat_map f (map g (take (i + 1) xs))
seen_turn f g = turn (λ xs. flat_map f (map g xs)) (λ x. f (g x)) (λ ys y. ap (flat_map f) (map_last g ys y) ∙ flat_last f (map g ys) (g y))

-- ---- the whole list
pub whole : {A B : Type 0} (all : List A → List B) (before now : List B) (xs : List A) (i : ℕ) → now ≡ before ++ all (take i xs) → length xs ≤ i → now ≡ before ++ all xs
whole all before now xs i p h = p ∙ ap (λ ys. before ++ all ys) (take_all i xs h)
