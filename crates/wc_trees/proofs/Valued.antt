-- Named values without their nodes, in the order of their names.
use Rattle.std.proofs.Common.{◌≡◌, ℕ, ◌+◌, ◌<◌, List, [], ◌∷◌, ◌++◌, length, take, get_or, true, refl, ap, sym, ◌∙◌}
use Rattle.std.proofs.lemmas.List.{take_more}
use Rattle.wc_value.specs.declared.value.Value.{Value}
use Rattle.wc_value.specs.Ascending.{Ascends, goes_last}
use Rattle.wc_value.proofs.Entries.{ascends_next, last_goes}
use Rattle.wc_state.specs.declared.environment.NodeValue.{NodeValue}
use Rattle.wc_world.specs.Trees.{NamedValues, values_alone}

goes_last_alone : (name : List ℕ) (es : NamedValues) → goes_last name (values_alone es) ≡ goes_last name es
goes_last_alone name [] = refl
goes_last_alone name (e ∷ []) = refl
goes_last_alone name (e ∷ f ∷ es) = goes_last_alone name (f ∷ es)

-- the next name goes last
pub next_goes : (name : List ℕ) (es : NamedValues) (i : ℕ) (e d : List ℕ × NodeValue) → Ascends es → i < length es → e ≡ get_or es i d → name ≡ e.0
    → goes_last name (values_alone (take i es)) ≡ true
next_goes name es i e d a h p q =
    ap (λ (n : List ℕ). goes_last n (values_alone (take i es))) q ∙ goes_last_alone e.0 (take i es)
    ∙ last_goes (take i es) e (ascends_next es (take i es) i e d a h refl p)

alone_append : (xs ys : NamedValues) → values_alone (xs ++ ys) ≡ values_alone xs ++ values_alone ys
alone_append [] ys = refl
alone_append (x ∷ xs) ys = ap (λ l. (x.0, x.1.value) ∷ l) (alone_append xs ys)

-- one value more, by its name
pub alone_next : (es : NamedValues) (i : ℕ) (e d : List ℕ × NodeValue) (name : List ℕ) (v : Value) (kept more : List (List ℕ × Value)) → i < length es
    → e ≡ get_or es i d → name ≡ e.0 → v ≡ e.1.value → kept ≡ values_alone (take i es) → more ≡ kept ++ (name, v) ∷ [] → more ≡ values_alone (take (i + 1) es)
alone_next es i e d name v kept more h p n q k m =
    m ∙ (λ j. k j ++ (n j, q j) ∷ []) ∙ sym (alone_append (take i es) (e ∷ []))
    ∙ ap values_alone (ap (λ (x : List ℕ × NodeValue). take i es ++ x ∷ []) p ∙ sym (take_more es i d h))
