-- Offsets play no part in which input of a definition is bad.
use Rattle.std.proofs.Common.{◌≡◌, List, Option, sym, ap, ◌∙◌}
use Rattle.std.specs.Prelude.{ℕ, option_map}
use Rattle.wc_syntax.specs.Bare.{bare_definition, bare_library}
use Rattle.wc_syntax.specs.Findings.{head_of, definition_named}
use Rattle.wc_syntax.specs.declared.definition.Definition.{Definition}
use Rattle.wc_syntax.specs.declared.definition.Port.{Port}
use Rattle.wc_semantics.specs.Rules.{Values}
use Rattle.wc_semantics.proofs.Bare.{inputs_bare, named_bare}
use Rattle.wc_meaning.specs.Inputs.{bad_input}
use Rattle.wc_meaning.proofs.Bare.{bad_bare}

-- a definition and its bare form have the same least bad input
pub same_bad : (d : Definition) (inputs : Values) → bad_input (head_of (bare_definition d)).inputs inputs ≡ bad_input (head_of d).inputs inputs
same_bad d inputs = ap (λ (ports : List Port). bad_input ports inputs) (inputs_bare d) ∙ bad_bare (head_of d).inputs inputs

-- what a checked library has under a name is the bare form of what the library as it was read has
pub named_in : (name : List ℕ) (read library : List Definition) (o : Option Definition) → bare_library read ≡ library → definition_named name read ≡ o
    → definition_named name library ≡ option_map bare_definition o
named_in name read library o same h = ap (definition_named name) (sym same) ∙ named_bare name read ∙ ap (option_map bare_definition) h
