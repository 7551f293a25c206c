-- Definitions by name in a library with one more behind it.
use Rattle.std.proofs.Common.{◌≡◌, ◌∙◌, ap, refl, ℕ, Bool, true, false, if◌then◌else◌, List, [], ◌∷◌, ◌++◌, Option, Some, None}
use Rattle.std.proofs.lemmas.Slice.Eq.{bytes_eq-Decides}
use Rattle.std.specs.Str.{bytes_eq}
use Rattle.wc_handlers.specs.declared.spec.Spec.{Spec}
use Rattle.wc_syntax.specs.Findings.{head_of, definition_named}
use Rattle.wc_syntax.specs.declared.definition.Definition.{Definition}
use Rattle.wc_syntax.specs.declared.definition.Definition.TheVariants as definition
use Rattle.wc_restart.specs.Chains.{chain_of, expanded}

found_at : (b : Bool) (c d : Definition) (x y : Option Definition) → (x ≡ Some d → y ≡ Some d)
    → (if b then Some c else x) ≡ Some d → (if b then Some c else y) ≡ Some d
found_at true c d x y rest h = h
found_at false c d x y rest h = rest h

-- what is found before is found
pub found_before : (name : List ℕ) (ds es : List Definition) (d : Definition) → definition_named name ds ≡ Some d → definition_named name (ds ++ es) ≡ Some d
found_before name [] es d h = absurd (cc)
found_before name (c ∷ ds) es d h =
    found_at (bytes_eq (head_of c).name.text name) c d (definition_named name ds) (definition_named name (ds ++ es)) (found_before name ds es d) h

skips_at : (b : Bool) (c : Definition) (x y z : Option Definition) → (x ≡ None → y ≡ z) → (if b then Some c else x) ≡ None → (if b then Some c else y) ≡ z
skips_at true c x y z rest h = absurd (cc)
skips_at false c x y z rest h = rest h

-- what isn't found before is sought behind
pub found_behind : (name : List ℕ) (ds es : List Definition) → definition_named name ds ≡ None → definition_named name (ds ++ es) ≡ definition_named name es
found_behind name [] es h = refl
found_behind name (c ∷ ds) es h =
    skips_at (bytes_eq (head_of c).name.text name) c (definition_named name ds) (definition_named name (ds ++ es)) (definition_named name es) (found_behind name ds es) h

pub same_bytes : (a : List ℕ) → bytes_eq a a ≡ true
same_bytes a = (bytes_eq-Decides a a).1 refl

-- the chain is found by its name, which is new
pub chain_found : (library : List Definition) (s : Spec) → definition_named s.name library ≡ None
    → definition_named s.name (expanded library s) ≡ Some (definition.Chain (chain_of library s))
chain_found library s h =
    found_behind s.name library (definition.Chain (chain_of library s) ∷ []) h
    ∙ ap (λ (b : Bool). if b then Some (definition.Chain (chain_of library s)) else None) (same_bytes s.name)
