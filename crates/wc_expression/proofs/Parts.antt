-- A text stands in another where there are texts around it.
use Rattle.std.proofs.Common.{◌≡◌, ℕ, Bool, true, false, ◌||◌, List, [], ◌∷◌, ◌++◌, length, drop, refl, ap}
use Rattle.std.specs.Prelude.{nat_eq, None}
use Rattle.std.specs.Bool.{Decides, MatchBool}
use Rattle.std.specs.List.{starts_with}
use Rattle.std.specs.Str.Iter.{HasSubslice}
use Rattle.std.specs.Str.Pattern.{HasMatch, FindsText}
use Rattle.std.proofs.lemmas.Bool.Decides.{Decides-eqb, same_from_decides}
use Rattle.std.proofs.lemmas.Slice.Eq.{starts_is}
use Rattle.std.proofs.lemmas.Str.Pattern.{contains_text}
use Rattle.wc_expression.specs.Texts.{stands_in}

begins : (part text rest : List ℕ) → text ≡ part ++ rest → starts_with nat_eq text part ≡ true
begins part text rest h = (starts_is Decides-eqb text part (starts_with nat_eq text part) refl).1 rest h

begun : (part text : List ℕ) → starts_with nat_eq text part ≡ true → text ≡ part ++ drop (length part) text
begun part text h = (starts_is Decides-eqb text part (starts_with nat_eq text part) refl).0 h

left : (a b : Bool) → a ≡ true → a || b ≡ true
left true b p = refl
left false b p = absurd (cc)

right : (a b : Bool) → b ≡ true → a || b ≡ true
right true b p = refl
right false b p = p

pub stands_between : (part text before after : List ℕ) → text ≡ before ++ (part ++ after) → stands_in part text ≡ true
stands_between part [] [] after h = begins part [] after h
stands_between part [] (b ∷ bs) after h = absurd (cc)
stands_between part (x ∷ xs) [] after h = left (starts_with nat_eq (x ∷ xs) part) (stands_in part xs) (begins part (x ∷ xs) after h)
stands_between part (x ∷ xs) (b ∷ bs) after h = right (starts_with nat_eq (x ∷ xs) part) (stands_in part xs) (stands_between part xs bs after cc)

around_at : (part : List ℕ) (x : ℕ) (xs : List ℕ) (b : Bool) → starts_with nat_eq (x ∷ xs) part ≡ b → b || stands_in part xs ≡ true
    → (stands_in part xs ≡ true → HasSubslice xs part) → HasSubslice (x ∷ xs) part
around_at part x xs true p q behind = ([], drop (length part) (x ∷ xs), begun part (x ∷ xs) p)
around_at part x xs false p q behind = let k = behind q in (x ∷ k.0, k.1, ap (λ (ys : List ℕ). x ∷ ys) k.2)

pub around : (part text : List ℕ) → stands_in part text ≡ true → HasSubslice text part
around part [] h = ([], drop (length part) [], begun part [] h)
around part (x ∷ xs) h = around_at part x xs (starts_with nat_eq (x ∷ xs) part) refl h (around part xs)

pub stands_is : (part text : List ℕ) → Decides (stands_in part text) (HasSubslice text part)
stands_is part text = (around part text, λ h. stands_between part text h.0 h.1 h.2)

-- what `contains` answers
pub contains_is : (r : Bool) (part text : List ℕ) → MatchBool r (HasMatch (FindsText part) text) (FindsText part text None) → r ≡ stands_in part text
contains_is r part text h = same_from_decides r (stands_in part text) (contains_text r part text h) (stands_is part text)
