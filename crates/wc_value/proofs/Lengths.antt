-- How many bytes the containers' spellings have, by what they hold.
use Rattle.std.proofs.Common.{◌≡◌, ℕ, ◌+◌, ◌-◌, ◌<◌, ◌≤◌, get_or, take, Option, Some, None, arith, sym, subst, List, length, ap, ◌∙◌}
use Rattle.std.specs.Prelude.{flat_map, SomeIff}
use Rattle.std.proofs.lemmas.List.{take_all}
use Rattle.std.proofs.lemmas.List.Folds.{length-flat_map-take}
use Rattle.wc_value.specs.declared.value.Value.{Value}
use Rattle.wc_value.specs.declared.value.Value.TheVariants as value
use Rattle.wc_value.specs.Spelling.{spelling, pair_of, file}
use Rattle.wc_value.proofs.Spelled.{spelled_list, spelled_dict, spelled_folder}

pub length_list : (vs : List Value) → length (spelling (value.List vs)) ≡ 5 + length (flat_map spelling vs)
length_list vs = let e = ap length (spelled_list vs) in omega arith

pub length_dict : (ps : List (List ℕ × Value)) → length (spelling (value.Dict ps)) ≡ 5 + length (flat_map pair_of ps)
length_dict ps = let e = ap length (spelled_dict ps) in omega arith

pub length_folder : (fs : List (List ℕ × List ℕ)) → length (spelling (value.Folder fs)) ≡ 5 + length (flat_map file fs)
length_folder fs = let e = ap length (spelled_folder fs) in omega arith

-- ---- over a loop that takes from the room what each item has
pub no_room : (r : Option ℕ) (P : Type 0) (v : ℕ) → r ≡ None → (P → ⊥) → SomeIff r P v
no_room r P v e full = subst (λ (o : Option ℕ). SomeIff o P v) (sym e) full

pub too_long : {A : Type 0} (f : A → List ℕ) (xs ys : List A) (i left room whole : ℕ) (x d : A) → i < length xs → x ≡ get_or xs i d → xs ≡ ys
    → left + (5 + length (flat_map f (take i xs))) ≡ room → whole ≡ 5 + length (flat_map f ys) → (length (f x) ≤ left → ⊥) → whole ≤ room → ⊥
too_long f xs ys i left room whole x d h e same so_far w full le =
    let r = length-flat_map-take f xs i d h in
    let p : length (f x) ≡ length (f (get_or xs i d)) = ap (λ y. length (f y)) e in
    let q : length (flat_map f xs) ≡ length (flat_map f ys) = ap (λ y. length (flat_map f y)) same in
    full (omega arith)

pub is_left : {A : Type 0} (f : A → List ℕ) (xs ys : List A) (i left room whole : ℕ) → length xs ≤ i → xs ≡ ys
    → left + (5 + length (flat_map f (take i xs))) ≡ room → whole ≡ 5 + length (flat_map f ys) → SomeIff (Some left) (whole ≤ room) (room - whole)
is_left f xs ys i left room whole h same so_far w =
    let q : length (flat_map f (take i xs)) ≡ length (flat_map f ys) = ap (λ y. length (flat_map f y)) (take_all i xs h ∙ same) in
    (omega arith, omega arith)
