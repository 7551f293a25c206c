-- Lists of which each item keeps a property, and of which nothing is gathered.
use Rattle.std.proofs.Common.{◌≡◌, ◌∙◌, ap, refl, ◌+◌, ◌≤◌, Bool, true, false, List, [], ◌∷◌, ◌++◌, map, length, length-append, arith}
use Rattle.std.specs.Prelude.{flat_map, ◌&&◌, ◌||◌}
use Rattle.std.specs.List.{AllByRecursion, list_all}
use Rattle.std.proofs.lemmas.Bool.{and_parts}
use Rattle.std.proofs.lemmas.Grind.{flat_map-append}

-- ---- empty lists

pub none : {A : Type 0} (xs ys : List A) → xs ≡ [] → ys ≡ [] → xs ++ ys ≡ []
none xs ys p q = λ i. p i ++ q i

pub first : {A : Type 0} (xs ys : List A) → xs ++ ys ≡ [] → xs ≡ []
first [] ys h = refl
first (x ∷ xs) ys h = absurd (cc)

pub second : {A : Type 0} (xs ys : List A) → xs ++ ys ≡ [] → ys ≡ []
second [] ys h = h
second (x ∷ xs) ys h = absurd (cc)

-- ---- each item

pub all_append : {A : Type 0} (P : A → Type 0) (xs ys : List A) → AllByRecursion P xs → AllByRecursion P ys → AllByRecursion P (xs ++ ys)
all_append P [] ys a b = b
all_append P (x ∷ xs) ys a b = (a.0, all_append P xs ys a.1 b)

pub all_map : {A B : Type 0} (P : B → Type 0) (f : A → B) (xs : List A) → AllByRecursion (λ x. P (f x)) xs → AllByRecursion P (map f xs)
all_map P f [] a = tt
all_map P f (x ∷ xs) a = (a.0, all_map P f xs a.1)

pub all_more : {A : Type 0} (P Q : A → Type 0) → ((x : A) → P x → Q x) → (xs : List A) → AllByRecursion P xs → AllByRecursion Q xs
all_more P Q h [] a = tt
all_more P Q h (x ∷ xs) a = (h x a.0, all_more P Q h xs a.1)

pub all_both : {A : Type 0} (P Q : A → Type 0) (xs : List A) → AllByRecursion P xs → AllByRecursion Q xs → AllByRecursion (λ x. P x × Q x) xs
all_both P Q [] a b = tt
all_both P Q (x ∷ xs) a b = ((a.0, b.0), all_both P Q xs a.1 b.1)

pub all_flat : {A B : Type 0} (P : B → Type 0) (f : A → List B) (xs : List A) → AllByRecursion (λ x. AllByRecursion P (f x)) xs → AllByRecursion P (flat_map f xs)
all_flat P f [] a = tt
all_flat P f (x ∷ xs) a = all_append P (f x) (flat_map f xs) a.0 (all_flat P f xs a.1)

-- ---- tests

pub passes : {A : Type 0} (test : A → Bool) (xs : List A) → AllByRecursion (λ x. test x ≡ true) xs → list_all test xs ≡ true
passes test [] a = refl
passes test (x ∷ xs) a = λ i. a.0 i && passes test xs a.1 i

pub passed : {A : Type 0} (test : A → Bool) (xs : List A) → list_all test xs ≡ true → AllByRecursion (λ x. test x ≡ true) xs
passed test [] h = tt
passed test (x ∷ xs) h = let p = and_parts (test x) (list_all test xs) h in (p.0, passed test xs p.1)

pub or_left : (a b : Bool) → a ≡ true → (a || b) ≡ true
or_left a b h = ap (λ c. c || b) h

pub or_right : (a b : Bool) → b ≡ true → (a || b) ≡ true
or_right true b h = refl
or_right false b h = h

pub or_either : {P : Type 0} (a b : Bool) → (a || b) ≡ true → (a ≡ true → P) → (b ≡ true → P) → P
or_either true b h f g = f refl
or_either false b h f g = g h

-- ---- what is gathered

pub nothing : {A B : Type 0} (f : A → List B) (xs : List A) → AllByRecursion (λ x. f x ≡ []) xs → flat_map f xs ≡ []
nothing f [] a = refl
nothing f (x ∷ xs) a = none (f x) (flat_map f xs) a.0 (nothing f xs a.1)

pub nothing_each : {A B : Type 0} (f : A → List B) (xs : List A) → flat_map f xs ≡ [] → AllByRecursion (λ x. f x ≡ []) xs
nothing_each f [] h = tt
nothing_each f (x ∷ xs) h = (first (f x) (flat_map f xs) h, nothing_each f xs (second (f x) (flat_map f xs) h))

-- nothing of what is gathered
pub nothing_inside : {A B C : Type 0} (f : B → List C) (g : A → List B) (xs : List A) → AllByRecursion (λ x. flat_map f (g x) ≡ []) xs → flat_map f (flat_map g xs) ≡ []
nothing_inside f g [] a = refl
nothing_inside f g (x ∷ xs) a = flat_map-append f (g x) (flat_map g xs) ∙ none (flat_map f (g x)) (flat_map f (flat_map g xs)) a.0 (nothing_inside f g xs a.1)

-- one item at most of each
pub gathered_few : {A B : Type 0} (f : A → List B) → ((x : A) → length (f x) ≤ 1) → (xs : List A) → length (flat_map f xs) ≤ length xs
gathered_few f h [] = omega arith
gathered_few f h (x ∷ xs) =
    let l : length (f x ++ flat_map f xs) ≡ length (f x) + length (flat_map f xs) = length-append (f x) (flat_map f xs) in
    let m : length (f x) ≤ 1 = h x in
    let n : length (flat_map f xs) ≤ length xs = gathered_few f h xs in
    omega arith
