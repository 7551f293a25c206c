use Rattle.std.proofs.Common.{◌∙◌, ap, sym, subst}
use Rattle.std.proofs.lemmas.Result.{on_ok_weaker}
use Rattle.wc_syntax.specs.Findings.{is_among, inputs_of, first_scope}
use Rattle.wc_check.specs.Scopes.{scope_seen, Alike}
use Rattle.wc_check.proofs.Scoped.{all_names}
use Rattle.wc_check.proofs.scopes.unknown_names.Goals as goal

pub first-scope-requires : goal.first-scope-requires
first-scope-requires c = λ m. c.inputs.ensures m ∙ ap (λ d. is_among m (inputs_of d)) (sym c.definition.ensures)

pub returns : goal.returns
returns c =
    on_ok_weaker c.find_in_rules.result
    (λ h. all_names c.args.parts.now (scope_seen c.first-scope.result) c.rules.result.now _ _ _
    (subst (λ d. Alike (scope_seen c.first-scope.result) (first_scope d)) c.definition.ensures c.first-scope.ensures)
    c.rules.ensures c.find_outside.ensures h)
    c.find_in_rules.ensures
