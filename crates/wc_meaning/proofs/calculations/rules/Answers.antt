use Rattle.std.proofs.Common.{◌≡◌, List, Option, Some, IfOk, sym, ap, subst, ◌∙◌}
use Rattle.std.specs.Prelude.{IsSome}
use Rattle.std.specs.Option.{option_copied}
use Rattle.wc_syntax.specs.Findings.{definition_named}
use Rattle.wc_syntax.specs.declared.definition.Definition.{Definition}
use Rattle.wc_semantics.specs.declared.outcomes.Parsed.{Parsed}
use Rattle.wc_meaning.specs.Ran.{ran}
use Rattle.wc_meaning.proofs.Ran.{ran_named}
use Rattle.wc_meaning.proofs.calculations.rules.Goals as goal

pub run_rules-requires : goal.run_rules-requires
run_rules-requires c =
    let a = c.args in
    let by = λ (o : Option Definition). ran o a.inputs.now (option_copied a.job) in
    subst (λ (o : Option Parsed). IsSome o)
    (sym (ap by c.find_definition.ensures ∙ sym (ran_named a.name.now c.library.result.now a.inputs.now (option_copied a.job))
    ∙ ap (λ (ds : List Definition). by (definition_named a.name.now ds)) c.library.ensures.same))
    c.requires

pub returns : goal.returns
returns c =
    let a = c.args in
    let by = λ (o : Option Definition). ran o a.inputs.now (option_copied a.job) in
    subst (λ (o : Option Parsed). IfOk c.run_rules.result (λ p. o ≡ Some p))
    (ap by c.find_definition.ensures ∙ sym (ran_named a.name.now c.library.result.now a.inputs.now (option_copied a.job))
    ∙ ap (λ (ds : List Definition). by (definition_named a.name.now ds)) c.library.ensures.same)
    c.run_rules.ensures
