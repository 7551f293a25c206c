-- Two places in one list.
use Rattle.std.proofs.Common.{◌≡◌, List, [], ◌∷◌, ◌++◌, ◌⊎◌, inl, inr, refl, sym}
use Rattle.wc_grammar.specs.Rules.{Tok}

-- they are one, or one stands before the other
abbrev pub Places : (f g : List Tok) (t u : Tok) → Type 0
Places f g t u = ((f ≡ g) × (t ≡ u)) ⊎ (((m : List Tok) × (g ≡ f ++ t ∷ m)) ⊎ ((m : List Tok) × (f ≡ g ++ u ∷ m)))

places_behind : (v w : Tok) (f g : List Tok) (t u : Tok) → v ≡ w → Places f g t u → Places (v ∷ f) (w ∷ g) t u
places_behind v w f g t u e (inl p) = inl ((λ i. e i ∷ p.0 i), p.1)
places_behind v w f g t u e (inr (inl p)) = inr (inl (p.0, λ i. sym e i ∷ p.1 i))
places_behind v w f g t u e (inr (inr p)) = inr (inr (p.0, λ i. e i ∷ p.1 i))

pub places : (f g : List Tok) (t u : Tok) (x y : List Tok) → f ++ t ∷ x ≡ g ++ u ∷ y → Places f g t u
places [] [] t u x y e = let p : t ≡ u = cc in inl (refl, p)
places [] (w ∷ g) t u x y e = let p : t ≡ w = cc in inr (inl (g, λ i. sym p i ∷ g))
places (v ∷ f) [] t u x y e = let p : v ≡ u = cc in inr (inr (f, λ i. p i ∷ f))
places (v ∷ f) (w ∷ g) t u x y e =
    let p : v ≡ w = cc in
    let q : f ++ t ∷ x ≡ g ++ u ∷ y = cc in
    places_behind v w f g t u p (places f g t u x y q)
