-- Input values that stand for no node, in the order of their ports.
use Rattle.std.proofs.Common.{◌≡◌, ℕ, ◌<◌, List, [], ◌∷◌, length, take, map, get_or, Bool, true, refl, ap, sym, ◌∙◌}
use Rattle.wc_value.specs.Ascending.{Ascends, goes_last}
use Rattle.wc_value.specs.declared.value.Value.{Value}
use Rattle.wc_value.proofs.Entries.{ascends_next, last_goes}
use Rattle.wc_semantics.specs.Rules.{unnumbered}

goes_last_unnumbered : (name : List ℕ) (es : List (List ℕ × Value)) → goes_last name (map unnumbered es) ≡ goes_last name es
goes_last_unnumbered name [] = refl
goes_last_unnumbered name (e ∷ []) = refl
goes_last_unnumbered name (e ∷ f ∷ es) = goes_last_unnumbered name (f ∷ es)

-- the next port's name goes last
pub next_goes : (name : List ℕ) (es : List (List ℕ × Value)) (i : ℕ) (e d : List ℕ × Value) → Ascends es → i < length es → e ≡ get_or es i d → name ≡ e.0
    → goes_last name (map unnumbered (take i es)) ≡ true
next_goes name es i e d a h p q =
    ap (λ (n : List ℕ). goes_last n (map unnumbered (take i es))) q ∙ goes_last_unnumbered e.0 (take i es)
    ∙ last_goes (take i es) e (ascends_next es (take i es) i e d a h refl p)
