-- A test of each item of a list, place by place.
use Rattle.std.proofs.Common.{◌≡◌, ℕ, zero, suc, ◌+◌, Bool, true, false, List, [], ◌∷◌, drop, refl, sym, ap, ◌∙◌, add-one}
use Rattle.std.specs.Prelude.{◌&&◌, slice_get}
use Rattle.std.specs.List.{list_all}
use Rattle.wc_fits.specs.Fits.{on_place}

all_from : {X : Type 0} (p : X → Bool) (xs : List X) (i : ℕ) → list_all p (drop i xs) ≡ on_place p (slice_get xs i) && list_all p (drop (suc i) xs)
all_from p [] zero = refl
all_from p [] (suc i) = refl
all_from p (x ∷ xs) zero = refl
all_from p (x ∷ xs) (suc i) = all_from p xs i

pub all_more : {X : Type 0} (p : X → Bool) (xs : List X) (i : ℕ) (b : Bool) → b ≡ on_place p (slice_get xs i) → b ≡ true
    → list_all p (drop i xs) ≡ list_all p xs → list_all p (drop (i + 1) xs) ≡ list_all p xs
all_more p xs i b h t known =
    ap (λ n. list_all p (drop n xs)) (add-one i)
    ∙ ap (λ c. c && list_all p (drop (suc i) xs)) (sym t ∙ h)
    ∙ sym (all_from p xs i) ∙ known

pub all_fails : {X : Type 0} (p : X → Bool) (xs : List X) (i : ℕ) (b : Bool) → b ≡ on_place p (slice_get xs i) → b ≡ false
    → list_all p (drop i xs) ≡ list_all p xs → false ≡ list_all p xs
all_fails p xs i b h f known = ap (λ c. c && list_all p (drop (suc i) xs)) (sym f ∙ h) ∙ sym (all_from p xs i) ∙ known
