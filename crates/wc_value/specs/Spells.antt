-- The canonical bytes of a value as a relation, with one case for each kind.
use Rattle.std.specs.Prelude.{◌≡◌, ℕ, ◌^◌, ◌<◌, ℤ, Bool, true, if◌then◌else◌, List, [], ◌∷◌, ◌++◌, length, FitsSigned}
use Rattle.std.specs.Int.{w32, w64, to_be_bytes, cast_unsigned}
use Rattle.std.specs.Str.{is_utf8}
use Rattle.wc_value.specs.Ascending.{Ascends}
use Rattle.wc_value.specs.Spelling.{text}
use Rattle.wc_value.specs.declared.value.Value.{Value}
use Rattle.wc_value.specs.declared.value.Value.TheVariants as value

-- UTF-8 whose length four bytes can tell
abbrev pub IsText : List ℕ → Type 0
IsText t = (is_utf8 t ≡ true) × (length t < 2 ^ 32)

mutual
  -- The value has these canonical bytes. A number is in two's complement, a length or a count in four bytes, and
  -- the highest byte comes first.
  pub data Spells : Value → List ℕ → Type 0 where
    int : (n : ℤ) → FitsSigned w64 n → Spells (value.Int n) (1 ∷ to_be_bytes w64 (cast_unsigned w64 n))
    bool : (b : Bool) → Spells (value.Bool b) (2 ∷ (if b then 1 else 0) ∷ [])
    text_of : (t : List ℕ) → IsText t → Spells (value.Text t) (3 ∷ text t)
    list : (vs : List Value) (bytes : List ℕ) → length vs < 2 ^ 32 → SpellsAll vs bytes
        → Spells (value.List vs) (4 ∷ (to_be_bytes w32 (length vs) ++ bytes))
    dict : (ps : List (List ℕ × Value)) (bytes : List ℕ) → length ps < 2 ^ 32 → Ascends ps → SpellsPairs ps bytes
        → Spells (value.Dict ps) (5 ∷ (to_be_bytes w32 (length ps) ++ bytes))
    folder : (fs : List (List ℕ × List ℕ)) (bytes : List ℕ) → length fs < 2 ^ 32 → Ascends fs → SpellsFiles fs bytes
        → Spells (value.Folder fs) (6 ∷ (to_be_bytes w32 (length fs) ++ bytes))

  -- values one after another
  pub data SpellsAll : List Value → List ℕ → Type 0 where
    no_value : SpellsAll [] []
    value_then : (v : Value) (vs : List Value) (b c : List ℕ) → Spells v b → SpellsAll vs c → SpellsAll (v ∷ vs) (b ++ c)

  -- keys with their values, one after another
  pub data SpellsPairs : List (List ℕ × Value) → List ℕ → Type 0 where
    no_pair : SpellsPairs [] []
    pair_then : (k : List ℕ) (v : Value) (ps : List (List ℕ × Value)) (b c : List ℕ) → IsText k → Spells v b → SpellsPairs ps c
        → SpellsPairs ((k, v) ∷ ps) (text k ++ b ++ c)

  -- names with their contents, one after another
  pub data SpellsFiles : List (List ℕ × List ℕ) → List ℕ → Type 0 where
    no_file : SpellsFiles [] []
    file_then : (name content : List ℕ) (fs : List (List ℕ × List ℕ)) (c : List ℕ) → IsText name → length content < 2 ^ 32 → SpellsFiles fs c
        → SpellsFiles ((name, content) ∷ fs) (text name ++ text content ++ c)
