-- Offsets play no part in which definition has a name.
use Rattle.std.proofs.Common.{◌≡◌, ℕ, Bool, true, false, List, [], ◌∷◌, Option, Some, refl, ◌∙◌}
use Rattle.std.specs.Prelude.{if◌then◌else◌, option_map}
use Rattle.std.specs.Str.{bytes_eq}
use Rattle.wc_syntax.specs.Bare.{bare_definition, bare_library}
use Rattle.wc_syntax.specs.Findings.{head_of, definition_named}
use Rattle.wc_syntax.specs.declared.definition.Definition.{Definition}
use Rattle.wc_syntax.specs.declared.definition.Definition.TheVariants as definition

head_bare : (d : Definition) → (head_of (bare_definition d)).name.text ≡ (head_of d).name.text
head_bare (definition.Function f) = refl
head_bare (definition.Job j) = refl
head_bare (definition.Chain c) = refl

chosen : (t : Bool) (d : Definition) (o : Option Definition)
    → (if t then Some (bare_definition d) else option_map bare_definition o) ≡ option_map bare_definition (if t then Some d else o)
chosen true d o = refl
chosen false d o = refl

pub named_bare : (name : List ℕ) (ds : List Definition) → definition_named name (bare_library ds) ≡ option_map bare_definition (definition_named name ds)
named_bare name [] = refl
named_bare name (d ∷ ds) = (λ i. if bytes_eq (head_bare d i) name then Some (bare_definition d) else named_bare name ds i)
    ∙ chosen (bytes_eq (head_of d).name.text name) d (definition_named name ds)
