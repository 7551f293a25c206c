-- Offsets play no part in what a library knows of a definition.
use Rattle.std.proofs.Common.{◌≡◌, ℕ, List, [], ◌∷◌, Bool, Option, Some, None, map, refl, sym, ap, ◌∙◌}
use Rattle.std.specs.Prelude.{◌||◌, option_map}
use Rattle.std.specs.List.{list_any}
use Rattle.wc_syntax.specs.Bare.{bare_definition, bare_library, bare_port}
use Rattle.wc_syntax.specs.Findings.{definition_named}
use Rattle.wc_syntax.specs.declared.definition.Definition.{Definition}
use Rattle.wc_syntax.specs.declared.definition.Definition.TheVariants as definition
use Rattle.wc_syntax.specs.declared.definition.Port.{Port}
use Rattle.wc_semantics.proofs.Bare.{named_bare}
use Rattle.wc_machine.specs.Calls.{kind_named}
use Rattle.wc_changes.specs.Advances.{Outs, is_missing, lacks}

kind_bare : (o : Option Definition) → kind_named (option_map bare_definition o) ≡ kind_named o
kind_bare None = refl
kind_bare (Some (definition.Function f)) = refl
kind_bare (Some (definition.Job j)) = refl
kind_bare (Some (definition.Chain c)) = refl

missing_bare : (outputs : Outs) (ports : List Port) → list_any (is_missing outputs) (map bare_port ports) ≡ list_any (is_missing outputs) ports
missing_bare outputs [] = refl
missing_bare outputs (p ∷ ps) = ap (λ (b : Bool). is_missing outputs p || b) (missing_bare outputs ps)

lacks_bare : (outputs : Outs) (o : Option Definition) → lacks outputs (option_map bare_definition o) ≡ lacks outputs o
lacks_bare outputs None = refl
lacks_bare outputs (Some (definition.Function f)) = missing_bare outputs f.head.outputs
lacks_bare outputs (Some (definition.Job j)) = missing_bare outputs j.head.outputs
lacks_bare outputs (Some (definition.Chain c)) = missing_bare outputs c.head.outputs

module _ (name : List ℕ) (read library : List Definition) (o : Option Definition) (same : bare_library read ≡ library) (named : o ≡ definition_named name read) where
  is_named : definition_named name library ≡ option_map bare_definition o
  is_named = ap (definition_named name) (sym same) ∙ named_bare name read ∙ ap (option_map bare_definition) (sym named)

  pub kind_is : kind_named o ≡ kind_named (definition_named name library)
  kind_is = sym (ap kind_named is_named ∙ kind_bare o)

  pub lacks_is : (outputs : Outs) → lacks outputs o ≡ lacks outputs (definition_named name library)
  lacks_is outputs = sym (ap (lacks outputs) is_named ∙ lacks_bare outputs o)
