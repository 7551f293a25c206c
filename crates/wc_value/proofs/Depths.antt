-- How deep lists and dictionaries are, by what they hold.
use Rattle.std.proofs.Common.{◌≡◌, ℕ, zero, suc, ◌+◌, ◌-◌, ◌<◌, ◌≤◌, max, List, [], ◌∷◌, ◌++◌, length, take, map, get_or, refl, sym, ap, ◌∙◌, arith, subst}
use Rattle.std.proofs.lemmas.List.{take_more, take_all}
use Rattle.std.specs.Prelude.{ℤ, Bool, true, false, IsTrue, ◌↔◌}
use Rattle.std.specs.Map.{values_of}
use Rattle.wc_value.specs.declared.value.Value.{Value, fold-roll-Value, ind-Value, map-Value}
use Rattle.wc_value.specs.declared.value.Value.TheVariants as value
use Rattle.wc_value.specs.declared.value.Value.TheVariants.{rolls-Int, rolls-Bool, rolls-Text, rolls-List, rolls-Dict, rolls-Folder}
use Rattle.wc_value.specs.declared.value.Value.TheOpen.{Value-F}
use Rattle.wc_value.specs.Spelling.{depth, deepest, depth_level}

pub depth_int : (n : ℤ) → depth (value.Int n) ≡ 1
depth_int n = ap depth (sym (rolls-Int n)) ∙ fold-roll-Value ℕ depth_level (Value-F.Int n)

pub depth_bool : (b : Bool) → depth (value.Bool b) ≡ 1
depth_bool b = ap depth (sym (rolls-Bool b)) ∙ fold-roll-Value ℕ depth_level (Value-F.Bool b)

pub depth_text : (t : List ℕ) → depth (value.Text t) ≡ 1
depth_text t = ap depth (sym (rolls-Text t)) ∙ fold-roll-Value ℕ depth_level (Value-F.Text t)

pub depth_folder : (fs : List (List ℕ × List ℕ)) → depth (value.Folder fs) ≡ 1
depth_folder fs = ap depth (sym (rolls-Folder fs)) ∙ fold-roll-Value ℕ depth_level (Value-F.Folder fs)

pub depth_list : (vs : List Value) → depth (value.List vs) ≡ suc (deepest (map depth vs))
depth_list vs = ap depth (sym (rolls-List vs)) ∙ fold-roll-Value ℕ depth_level (Value-F.List vs)

abbrev pub depth_of : List ℕ × Value → ℕ
depth_of p = depth p.1

values_of_map : (ps : List (List ℕ × Value)) → values_of (map (λ p. (p.0, depth p.1)) ps) ≡ map depth_of ps
values_of_map [] = refl
values_of_map (p ∷ ps) = ap (λ l. depth p.1 ∷ l) (values_of_map ps)

pub depth_dict : (ps : List (List ℕ × Value)) → depth (value.Dict ps) ≡ suc (deepest (map depth_of ps))
depth_dict ps = ap depth (sym (rolls-Dict ps)) ∙ fold-roll-Value ℕ depth_level (Value-F.Dict ps) ∙ ap (λ l. suc (deepest l)) (values_of_map ps)

deepest_end : (xs : List ℕ) (d : ℕ) → deepest (xs ++ d ∷ []) ≡ max (deepest xs) d
deepest_end [] d = omega arith
deepest_end (x ∷ xs) d = let e = deepest_end xs d in omega arith

map_end : {A : Type 0} (f : A → ℕ) (xs : List A) (x : A) → map f (xs ++ x ∷ []) ≡ map f xs ++ f x ∷ []
map_end f [] x = refl
map_end f (y ∷ ys) x = ap (λ l. f y ∷ l) (map_end f ys x)

-- one more item
pub deepest_more : {A : Type 0} (f : A → ℕ) (xs : List A) (i : ℕ) (x d : A) → i < length xs → x ≡ get_or xs i d
    → deepest (map f (take (i + 1) xs)) ≡ max (deepest (map f (take i xs))) (f x)
deepest_more f xs i x d h e =
    ap (λ l. deepest (map f l)) (take_more xs i d h) ∙ ap deepest (map_end f (take i xs) (get_or xs i d)) ∙ deepest_end (map f (take i xs)) (f (get_or xs i d)) ∙ ap (λ y. max (deepest (map f (take i xs))) (f y)) (sym e)

-- an item is no deeper than the deepest
pub deepest_item : {A : Type 0} (f : A → ℕ) (xs : List A) (i : ℕ) (x d : A) → i < length xs → x ≡ get_or xs i d → f x ≤ deepest (map f xs)
deepest_item f [] i x d h e = absurd (omega arith)
deepest_item f (y ∷ ys) zero x d h e = let p : f x ≡ f y = ap f e in omega arith
deepest_item f (y ∷ ys) (suc i) x d h e = let r = deepest_item f ys i x d (omega arith) e in omega arith

level_positive : (S : Type 0) (v : S → Value) (y : Value-F S) → 1 ≤ depth_level (map-Value S ℕ (λ s. depth (v s)) y)
level_positive S v (Value-F.Int n) = omega arith
level_positive S v (Value-F.Bool b) = omega arith
level_positive S v (Value-F.Text t) = omega arith
level_positive S v (Value-F.List vs) = omega arith
level_positive S v (Value-F.Dict ps) = omega arith
level_positive S v (Value-F.Folder fs) = omega arith

depth_positive : (v : Value) → 1 ≤ depth v
depth_positive = ind-Value (λ v. 1 ≤ depth v) (λ x y e. subst (λ d. 1 ≤ d) (sym (fold-roll-Value ℕ depth_level x)) (level_positive Value (λ v. v) x))

pub depth_at_least : (v : Value) → depth v ≤ 0 → ⊥
depth_at_least v h = let p = depth_positive v in omega arith

-- ---- over a loop
pub goes_deeper : {A : Type 0} (f : A → ℕ) (xs : List A) (i most : ℕ) (x d : A) (ys : List A) (whole : ℕ) → i < length xs → x ≡ get_or xs i d → xs ≡ ys
    → whole ≡ suc (deepest (map f ys)) → 0 < most → (f x ≤ most - 1 → ⊥) → IsTrue false ↔ (whole ≤ most)
goes_deeper f xs i most x d ys whole h e same w p deeper =
    let r = deepest_item f xs i x d h e in
    let q : deepest (map f xs) ≡ deepest (map f ys) = ap (λ l. deepest (map f l)) same in
    ((λ b. absurd (cc)), (λ le. absurd (deeper (omega arith))))

pub is_as_deep : {A : Type 0} (f : A → ℕ) (xs ys : List A) (i most whole : ℕ) → length xs ≤ i → xs ≡ ys → deepest (map f (take i xs)) < most
    → whole ≡ suc (deepest (map f ys)) → IsTrue true ↔ (whole ≤ most)
is_as_deep f xs ys i most whole h same so_far w =
    let q : deepest (map f (take i xs)) ≡ deepest (map f ys) = ap (λ l. deepest (map f l)) (take_all i xs h ∙ same) in
    ((λ b. omega arith), (λ le. refl))

pub goes_on : {A : Type 0} (f : A → ℕ) (xs : List A) (i most : ℕ) (x d : A) → i < length xs → x ≡ get_or xs i d
    → deepest (map f (take i xs)) < most → f x ≤ most - 1 → 0 < most → deepest (map f (take (i + 1) xs)) < most
goes_on f xs i most x d h e so_far one p = let r = deepest_more f xs i x d h e in omega arith
