-- The texts of a library's definitions, one behind the other, are its printed text.
use Rattle.std.proofs.Common.{◌≡◌, ◌≤◌, ◌++◌, ◌∙◌, ℕ, List, [], ◌∷◌, length, map, drop, refl, sym, ap}
use Rattle.std.specs.List.{concat}
use Rattle.std.proofs.lemmas.List.{append-nil, drop_all}
use Rattle.wc_syntax.specs.declared.definition.Definition.{Definition}
use Rattle.wc_syntax.specs.Printing.{printed, printed_definition}

texts_joined : (ds : List Definition) → concat (map printed_definition ds) ≡ printed ds
texts_joined [] = refl
texts_joined (d ∷ ds) = ap (λ (text : List ℕ). printed_definition d ++ text) (texts_joined ds)

-- what is put together of all texts of a library
pub joined : (ds : List Definition) (texts : List (List ℕ)) (at : ℕ) (out : List ℕ) → texts ≡ map printed_definition ds → length texts ≤ at
    → out ++ concat (drop at texts) ≡ concat texts → out ≡ printed ds
joined ds texts at out same past put =
    sym (append-nil out) ∙ ap (λ (rest : List (List ℕ)). out ++ concat rest) (sym (drop_all at texts past)) ∙ put ∙ ap concat same ∙ texts_joined ds
