-- Lists that are gathered from bare syntax, and findings without their places.
use Rattle.std.proofs.Common.{◌≡◌, ℕ, zero, suc, List, [], ◌∷◌, ◌++◌, Bool, true, false, map, refl, sym, ◌∙◌}
use Rattle.std.specs.Prelude.{flat_map, not}
use Rattle.std.proofs.lemmas.List.{map-append}
use Rattle.wc_syntax.specs.Findings.{Finding, unless, is_among, twice, repeats_after, first_of, over}

-- a finding with its place at 0
abbrev pub unplaced : Finding → Finding
unplaced f = record { number = f.number; name = f.name; at = 0 }

-- ---- lists

-- one list behind another
pub both : {A B : Type 0} (f : A → B) (xs ys : List A) (us vs : List B) → us ≡ map f xs → vs ≡ map f ys → us ++ vs ≡ map f (xs ++ ys)
both f xs ys us vs p q = (λ i. p i ++ q i) ∙ sym (map-append f xs ys)

-- what is made of each
pub each : {A A' B : Type 0} (u : A → A') (f : A' → B) (g : A → B) → ((x : A) → f (u x) ≡ g x) → (xs : List A) → map f (map u xs) ≡ map g xs
each u f g h [] = refl
each u f g h (x ∷ xs) = λ i. h x i ∷ each u f g h xs i

-- what is made of each, where that changes as well
pub mapped : {A A' B B' : Type 0} (u : A → A') (v : B → B') (f : A' → B') (g : A → B) → ((x : A) → f (u x) ≡ v (g x)) → (xs : List A)
    → map f (map u xs) ≡ map v (map g xs)
mapped u v f g h [] = refl
mapped u v f g h (x ∷ xs) = λ i. h x i ∷ mapped u v f g h xs i

-- what is gathered from each
pub all : {A A' B B' : Type 0} (u : A → A') (v : B → B') (f : A' → List B') (g : A → List B) → ((x : A) → f (u x) ≡ map v (g x)) → (xs : List A)
    → flat_map f (map u xs) ≡ map v (flat_map g xs)
all u v f g h [] = refl
all u v f g h (x ∷ xs) = both v (g x) (flat_map g xs) _ _ (h x) (all u v f g h xs)

-- lists of what is inside, one after the other
pub joined : {S A B : Type 0} (v : S → A) (u : A → A) (w : B → B) (f : A → List B) → ((s : S) → f (u (v s)) ≡ map w (f (v s))) → (ss : List S)
    → flat_map (λ ys. ys) (map f (map u (map v ss))) ≡ map w (flat_map (λ ys. ys) (map f (map v ss)))
joined v u w f h [] = refl
joined v u w f h (s ∷ ss) = both w (f (v s)) (flat_map (λ ys. ys) (map f (map v ss))) _ _ (h s) (joined v u w f h ss)

-- a list is empty where nothing is made of it
pub map_empty : {A B : Type 0} (f : A → B) (xs : List A) → map f xs ≡ [] → xs ≡ []
map_empty f [] h = refl
map_empty f (x ∷ xs) h = absurd (cc)

-- ---- findings

-- what is found where a test fails
pub found : (b : Bool) (f : Finding) → unless b (unplaced f) ≡ map unplaced (unless b f)
found true f = refl
found false f = refl

-- names that stand twice, where bare things have the same names
pub twice_bare : {A : Type 0} (u : A → A) (name : A → List ℕ × ℕ) → ((x : A) → name (u x) ≡ ((name x).0, 0)) → (before : List (List ℕ)) (xs : List A)
    → repeats_after before (map name (map u xs)) ≡ map unplaced (repeats_after before (map name xs))
twice_bare u name h before [] = refl
twice_bare u name h before (x ∷ xs) =
    (λ i. repeats_after before (h x i ∷ map name (map u xs)))
    ∙ both unplaced _ _ _ _ (found (not (is_among (name x).0 before)) (twice (name x).0 (name x).1)) (twice_bare u name h (before ++ (name x).0 ∷ []) xs)

-- the first that is one too many
first_bare : (ats : List ℕ) → first_of (map (λ n. 0) ats) ≡ map unplaced (first_of ats)
first_bare [] = refl
first_bare (at ∷ ats) = refl

pub over_bare : (most : ℕ) (ats : List ℕ) → over most (map (λ n. 0) ats) ≡ map unplaced (over most ats)
over_bare zero ats = first_bare ats
over_bare (suc most) [] = refl
over_bare (suc most) (at ∷ ats) = over_bare most ats
