-- The keys of calculations.
use Rattle.std.specs.Prelude.{ℕ, codes, List, [], ◌∷◌, ◌++◌}
use Rattle.std.specs.Int.{w32, to_be_bytes}
use Rattle.wc_value.specs.declared.value.Value.{Value}
use Rattle.wc_value.specs.declared.value.Value.TheVariants as value
use Rattle.wc_value.specs.Spelling.{text}

-- the dictionary with the text of a definition at `definition`, and the dictionary of inputs at `inputs`
abbrev pub key_value : List ℕ → List (List ℕ × Value) → Value
key_value definition inputs = value.Dict ((codes "definition", value.Text definition) ∷ (codes "inputs", value.Dict inputs) ∷ [])

-- the canonical bytes of that dictionary up to the count of its inputs
abbrev pub key_start : List ℕ → List ℕ
key_start definition = 5 ∷ (to_be_bytes w32 2 ++ (text (codes "definition") ++ (3 ∷ (text definition ++ (text (codes "inputs") ++ 5 ∷ [])))))
