-- Offsets play no part in what rules give.
use Rattle.std.proofs.Common.{◌≡◌, ℕ, List, Option, Some, None, refl, ap, ◌∙◌}
use Rattle.std.specs.Prelude.{option_map}
use Rattle.wc_value.specs.declared.process.JobResult.{JobResult}
use Rattle.wc_syntax.specs.Bare.{bare_definition, bare_library}
use Rattle.wc_syntax.specs.Findings.{definition_named}
use Rattle.wc_syntax.specs.declared.definition.Definition.{Definition}
use Rattle.wc_syntax.specs.declared.definition.Definition.TheVariants as definition
use Rattle.wc_semantics.specs.Rules.{Values}
use Rattle.wc_semantics.proofs.BareCalculations.{calculated_bare, parsed_bare}
use Rattle.wc_semantics.proofs.Bare.{named_bare}
use Rattle.wc_meaning.specs.Ran.{ran}

ran_bare : (o : Option Definition) (inputs : Values) (r : Option JobResult) → ran (option_map bare_definition o) inputs r ≡ ran o inputs r
ran_bare None inputs r = refl
ran_bare (Some (definition.Function f)) inputs None = ap Some (calculated_bare f inputs)
ran_bare (Some (definition.Function f)) inputs (Some r) = refl
ran_bare (Some (definition.Job j)) inputs None = refl
ran_bare (Some (definition.Job j)) inputs (Some r) = ap Some (parsed_bare j inputs r)
ran_bare (Some (definition.Chain c)) inputs r = refl

pub ran_named : (name : List ℕ) (ds : List Definition) (inputs : Values) (r : Option JobResult)
    → ran (definition_named name (bare_library ds)) inputs r ≡ ran (definition_named name ds) inputs r
ran_named name ds inputs r = ap (λ o. ran o inputs r) (named_bare name ds) ∙ ran_bare (definition_named name ds) inputs r
