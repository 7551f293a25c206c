-- The canonical bytes of a key, by its parts.
use Rattle.std.proofs.Common.{◌≡◌, ℕ, List, [], ◌∷◌, ◌++◌, sym, ap, ◌∙◌, append_assoc, append-nil}
use Rattle.std.specs.Prelude.{codes}
use Rattle.std.specs.Int.{w32, to_be_bytes}
use Rattle.wc_value.specs.declared.value.Value.{Value}
use Rattle.wc_value.specs.declared.value.Value.TheVariants as value
use Rattle.wc_value.specs.Spelling.{spelling, text, pairs}
use Rattle.wc_value.proofs.Spelled.{spelled_text, spelled_dict}
use Rattle.wc_keys.specs.SealKeys.{key_value, key_start}

-- what comes after a byte in the middle of others
regroup : (two d i t p : List ℕ) (three five : ℕ)
    → two ++ ((d ++ (three ∷ t)) ++ ((i ++ (five ∷ p)) ++ [])) ≡ (two ++ (d ++ (three ∷ (t ++ (i ++ five ∷ []))))) ++ p
regroup two d i t p three five =
    ap (λ (l : List ℕ). two ++ ((d ++ (three ∷ t)) ++ l)) (append-nil (i ++ (five ∷ p)))
    ∙ ap (λ (l : List ℕ). two ++ l)
    (append_assoc d (three ∷ t) (i ++ (five ∷ p))
    ∙ ap (λ (l : List ℕ). d ++ (three ∷ (t ++ l))) (sym (append_assoc i (five ∷ []) p))
    ∙ ap (λ (l : List ℕ). d ++ (three ∷ l)) (sym (append_assoc t (i ++ five ∷ []) p))
    ∙ sym (append_assoc d (three ∷ (t ++ (i ++ five ∷ []))) p))
    ∙ sym (append_assoc two (d ++ (three ∷ (t ++ (i ++ five ∷ [])))) p)

-- A key is its beginning, and then the count of its inputs and each of them.
pub key_spelled : (definition : List ℕ) (inputs : List (List ℕ × Value)) → spelling (key_value definition inputs) ≡ key_start definition ++ pairs inputs
key_spelled definition inputs =
    spelled_dict ((codes "definition", value.Text definition) ∷ (codes "inputs", value.Dict inputs) ∷ [])
    ∙ ap (λ (l : List ℕ). 5 ∷ (to_be_bytes w32 2 ++ ((text (codes "definition") ++ l) ++ ((text (codes "inputs") ++ spelling (value.Dict inputs)) ++ [])))) (spelled_text definition)
    ∙ ap (λ (l : List ℕ). 5 ∷ (to_be_bytes w32 2 ++ ((text (codes "definition") ++ (3 ∷ text definition)) ++ ((text (codes "inputs") ++ l) ++ [])))) (spelled_dict inputs)
    ∙ ap (λ (l : List ℕ). 5 ∷ l) (regroup (to_be_bytes w32 2) (text (codes "definition")) (text (codes "inputs")) (text definition) (pairs inputs) 3 5)
