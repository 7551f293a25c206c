-- The relation and the function: what spells a value is its spelling.
use Rattle.std.proofs.Common.{◌≡◌, ℕ, suc, ◌^◌, ◌<◌, ◌≤◌, ℤ, Bool, List, [], ◌∷◌, ◌++◌, length, get_or, refl, sym, ap, subst, ◌∙◌, arith}
use Rattle.std.specs.Prelude.{All, flat_map, FitsSigned}
use Rattle.std.specs.Int.{w32, w64, to_be_bytes}
use Rattle.wc_value.specs.Ascending.{Ascends}
use Rattle.wc_value.specs.declared.value.Value.{Value}
use Rattle.wc_value.specs.declared.value.Value.TheVariants as value
use Rattle.wc_value.specs.Spelling.{spelling, text, pair_of, file}
use Rattle.wc_value.specs.Spells.{Spells, int, bool, text_of, list, dict, folder, SpellsAll, no_value, value_then, SpellsPairs, no_pair, pair_then, SpellsFiles, no_file, file_then, IsText}
use Rattle.wc_value.proofs.Spelled.{spelled_int, spelled_bool, spelled_text, spelled_list, spelled_dict, spelled_folder}

-- ---- what spells is the spelling
files_spelled : (fs : List (List ℕ × List ℕ)) (b : List ℕ) → SpellsFiles fs b → b ≡ flat_map file fs
files_spelled fs b no_file = refl
files_spelled fs b (file_then name content gs c t h s) =
    ap (λ l. text name ++ text content ++ l) (files_spelled gs c s)

mutual
  pub spells_is : (v : Value) (b : List ℕ) → Spells v b → b ≡ spelling v
  spells_is v b (int n h) = sym (spelled_int n)
  spells_is v b (bool t) = sym (spelled_bool t)
  spells_is v b (text_of t h) = sym (spelled_text t)
  spells_is v b (list vs c h s) = ap (λ l. 4 ∷ (to_be_bytes w32 (length vs) ++ l)) (all_is vs c s) ∙ sym (spelled_list vs)
  spells_is v b (dict ps c h a s) = ap (λ l. 5 ∷ (to_be_bytes w32 (length ps) ++ l)) (pairs_is ps c s) ∙ sym (spelled_dict ps)
  spells_is v b (folder fs c h a s) = ap (λ l. 6 ∷ (to_be_bytes w32 (length fs) ++ l)) (files_spelled fs c s) ∙ sym (spelled_folder fs)

  all_is : (vs : List Value) (b : List ℕ) → SpellsAll vs b → b ≡ flat_map spelling vs
  all_is vs b no_value = refl
  all_is vs b (value_then v ws c d s t) = (λ i. spells_is v c s i ++ all_is ws d t i)

  pairs_is : (ps : List (List ℕ × Value)) (b : List ℕ) → SpellsPairs ps b → b ≡ flat_map pair_of ps
  pairs_is ps b no_pair = refl
  pairs_is ps b (pair_then k v qs c d h s t) = (λ i. text k ++ spells_is v c s i ++ pairs_is qs d t i)

-- ---- a value that a program holds is spelled by its spelling
abbrev pub IsSpelled : Value → Type 0
IsSpelled v = Spells v (spelling v)

abbrev pub IsSpelledPair : List ℕ × Value → Type 0
IsSpelledPair p = IsText p.0 × IsSpelled p.1

abbrev pub IsSpelledFile : List ℕ × List ℕ → Type 0
IsSpelledFile f = IsText f.0 × (length f.1 < 2 ^ 32)

all_spelled : (vs : List Value) → All IsSpelled vs → SpellsAll vs (flat_map spelling vs)
all_spelled [] h = no_value
all_spelled (v ∷ vs) h = value_then v vs (spelling v) (flat_map spelling vs) (h 0 v (omega arith)) (all_spelled vs (λ k d lt. h (suc k) d (omega arith)))

pairs_spelled : (ps : List (List ℕ × Value)) → All IsSpelledPair ps → SpellsPairs ps (flat_map pair_of ps)
pairs_spelled [] h = no_pair
pairs_spelled (p ∷ ps) h =
    let e = h 0 p (omega arith) in
    pair_then p.0 p.1 ps (spelling p.1) (flat_map pair_of ps) e.0 e.1 (pairs_spelled ps (λ k d lt. h (suc k) d (omega arith)))

files_spelled_all : (fs : List (List ℕ × List ℕ)) → All IsSpelledFile fs → SpellsFiles fs (flat_map file fs)
files_spelled_all [] h = no_file
files_spelled_all (f ∷ fs) h =
    let e = h 0 f (omega arith) in
    file_then f.0 f.1 fs (flat_map file fs) e.0 e.1 (files_spelled_all fs (λ k d lt. h (suc k) d (omega arith)))

pub list_spelled : (vs : List Value) → length vs < 2 ^ 32 → All IsSpelled vs → IsSpelled (value.List vs)
list_spelled vs h all = subst (Spells (value.List vs)) (sym (spelled_list vs)) (list vs (flat_map spelling vs) h (all_spelled vs all))

pub dict_spelled : (ps : List (List ℕ × Value)) → length ps < 2 ^ 32 → Ascends ps → All IsSpelledPair ps → IsSpelled (value.Dict ps)
dict_spelled ps h a all = subst (Spells (value.Dict ps)) (sym (spelled_dict ps)) (dict ps (flat_map pair_of ps) h a (pairs_spelled ps all))

pub folder_spelled : (fs : List (List ℕ × List ℕ)) → length fs < 2 ^ 32 → Ascends fs → All IsSpelledFile fs → IsSpelled (value.Folder fs)
folder_spelled fs h a all = subst (Spells (value.Folder fs)) (sym (spelled_folder fs)) (folder fs (flat_map file fs) h a (files_spelled_all fs all))

pub int_spelled : (n : ℤ) → FitsSigned w64 n → IsSpelled (value.Int n)
int_spelled n h = subst (Spells (value.Int n)) (sym (spelled_int n)) (int n h)

pub bool_spelled : (b : Bool) → IsSpelled (value.Bool b)
bool_spelled b = subst (Spells (value.Bool b)) (sym (spelled_bool b)) (bool b)

pub text_spelled : (t : List ℕ) → IsText t → IsSpelled (value.Text t)
text_spelled t h = subst (Spells (value.Text t)) (sym (spelled_text t)) (text_of t h)

-- ---- the same, where a loop has gone over all
pub list_spelled_at : (xs vs : List Value) (i : ℕ) → xs ≡ vs → length xs ≤ i → length vs < 2 ^ 32 → ((k : ℕ) (d : Value) → k < i → IsSpelled (get_or xs k d)) → IsSpelled (value.List vs)
list_spelled_at xs vs i e h lt so_far =
    subst (λ l. IsSpelled (value.List l)) e (list_spelled xs (rw e lt) (λ k d within. so_far k d (omega arith)))

pub dict_spelled_at : (xs ps : List (List ℕ × Value)) (i : ℕ) → xs ≡ ps → length xs ≤ i → length ps < 2 ^ 32 → Ascends xs
    → ((k : ℕ) (d : List ℕ × Value) → k < i → IsSpelledPair (get_or xs k d)) → IsSpelled (value.Dict ps)
dict_spelled_at xs ps i e h lt a so_far =
    subst (λ l. IsSpelled (value.Dict l)) e (dict_spelled xs (rw e lt) a (λ k d within. so_far k d (omega arith)))

pub folder_spelled_at : (xs fs : List (List ℕ × List ℕ)) (i : ℕ) → xs ≡ fs → length xs ≤ i → length fs < 2 ^ 32 → Ascends xs
    → ((k : ℕ) (d : List ℕ × List ℕ) → k < i → IsSpelledFile (get_or xs k d)) → IsSpelled (value.Folder fs)
folder_spelled_at xs fs i e h lt a so_far =
    subst (λ l. IsSpelled (value.Folder l)) e (folder_spelled xs (rw e lt) a (λ k d within. so_far k d (omega arith)))
