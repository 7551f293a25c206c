-- The spelling of each container by the spellings of what it holds.
use Rattle.std.proofs.Common.{◌≡◌, ℕ, ◌≤◌, List, [], ◌∷◌, ◌++◌, length, take, map, refl, sym, ap, ◌∙◌, append_assoc}
use Rattle.std.proofs.lemmas.List.{length-map, take_all}
use Rattle.std.specs.Prelude.{ℤ, Bool, flat_map, if◌then◌else◌, Result, Ok, Err, OnOk}
use Rattle.std.specs.Int.{w32, w64, to_be_bytes, cast_unsigned}
use Rattle.wc_value.specs.declared.value.Value.{Value, fold-roll-Value}
use Rattle.wc_value.specs.declared.value.Value.TheVariants as value
use Rattle.wc_value.specs.declared.value.Value.TheVariants.{rolls-Int, rolls-Bool, rolls-Text, rolls-List, rolls-Dict, rolls-Folder}
use Rattle.wc_value.specs.declared.value.Value.TheOpen.{Value-F}
use Rattle.wc_value.specs.Spelling.{spelling, text, spellings, pair, pairs, files, level}

flat_map-map : {A B C : Type 0} (f : B → List C) (g : A → B) (xs : List A) → flat_map f (map g xs) ≡ flat_map (λ x. f (g x)) xs
flat_map-map f g [] = refl
flat_map-map f g (x ∷ xs) = ap (λ l. f (g x) ++ l) (flat_map-map f g xs)

counted : {A B : Type 0} (f : B → List ℕ) (g : A → B) (xs : List A)
    → to_be_bytes w32 (length (map g xs)) ++ flat_map f (map g xs) ≡ to_be_bytes w32 (length xs) ++ flat_map (λ x. f (g x)) xs
counted f g xs = λ i. to_be_bytes w32 (length-map xs g i) ++ flat_map-map f g xs i

pub spelled_int : (n : ℤ) → spelling (value.Int n) ≡ 1 ∷ to_be_bytes w64 (cast_unsigned w64 n)
spelled_int n = ap spelling (sym (rolls-Int n)) ∙ fold-roll-Value (List ℕ) level (Value-F.Int n)

pub spelled_bool : (b : Bool) → spelling (value.Bool b) ≡ 2 ∷ (if b then 1 else 0) ∷ []
spelled_bool b = ap spelling (sym (rolls-Bool b)) ∙ fold-roll-Value (List ℕ) level (Value-F.Bool b)

pub spelled_text : (t : List ℕ) → spelling (value.Text t) ≡ 3 ∷ text t
spelled_text t = ap spelling (sym (rolls-Text t)) ∙ fold-roll-Value (List ℕ) level (Value-F.Text t)

pub spelled_list : (vs : List Value) → spelling (value.List vs) ≡ 4 ∷ spellings vs
spelled_list vs = ap spelling (sym (rolls-List vs)) ∙ fold-roll-Value (List ℕ) level (Value-F.List vs) ∙ ap (λ l. 4 ∷ l) (counted (λ s. s) spelling vs)

pub spelled_dict : (ps : List (List ℕ × Value)) → spelling (value.Dict ps) ≡ 5 ∷ pairs ps
spelled_dict ps = ap spelling (sym (rolls-Dict ps)) ∙ fold-roll-Value (List ℕ) level (Value-F.Dict ps) ∙ ap (λ l. 5 ∷ l) (counted pair (λ p. (p.0, spelling p.1)) ps)

pub spelled_folder : (fs : List (List ℕ × List ℕ)) → spelling (value.Folder fs) ≡ 6 ∷ files fs
spelled_folder fs = ap spelling (sym (rolls-Folder fs)) ∙ fold-roll-Value (List ℕ) level (Value-F.Folder fs)

-- A loop over all of xs has written what stands for ys.
pub finished : {A : Type 0} (f : A → List ℕ) (tag n : ℕ) (old out all : List ℕ) (xs ys : List A)
    → out ≡ old ++ (tag ∷ (to_be_bytes w32 (length xs) ++ flat_map f (take n xs))) → length xs ≤ n → xs ≡ ys
    → all ≡ tag ∷ (to_be_bytes w32 (length ys) ++ flat_map f ys) → out ≡ old ++ all
finished f tag n old out all xs ys p h e q =
    p ∙ (λ i. old ++ (tag ∷ (to_be_bytes w32 (length (e i)) ++ flat_map f ((take_all n xs h ∙ e) i)))) ∙ ap (λ l. old ++ l) (sym q)

-- the tag, and then what a last call writes
pub tagged_written : {E : Type 0} (tag : ℕ) (old mid out bytes all : List ℕ) (r : Result (Unit {0}) E)
    → mid ≡ old ++ tag ∷ [] → OnOk r (out ≡ mid ++ bytes) → all ≡ tag ∷ bytes → OnOk r (out ≡ old ++ all)
tagged_written tag old mid out bytes all (Ok u) p q e = q ∙ ap (λ m. m ++ bytes) p ∙ append_assoc old (tag ∷ []) bytes ∙ ap (λ l. old ++ l) (sym e)
tagged_written tag old mid out bytes all (Err u) p q e = tt
