use Rattle.std.proofs.Common.{◌∙◌, ap, sym, subst}
use Rattle.std.specs.Prelude.{flat_map}
use Rattle.wc_syntax.specs.Mentions.{mentions}
use Rattle.wc_syntax.specs.Findings.{is_among, inputs_of, line_exprs, scope_of, unknown_in}
use Rattle.wc_check.specs.Flat.{seen_pieces}
use Rattle.wc_check.specs.Least.{least_after}
use Rattle.wc_check.specs.Scopes.{scope_seen, Alike}
use Rattle.wc_check.proofs.Scoped.{outside}
use Rattle.wc_check.proofs.scopes.find_outside.Goals as goal

pub of-scope-requires : goal.of-scope-requires
of-scope-requires c = λ m. c.inputs.ensures m ∙ ap (λ d. is_among m (inputs_of d)) (sym c.definition.ensures)

pub returns : goal.returns
returns c =
    outside c.args.parts.now (scope_seen c.of-scope.result) _ _ _ (seen_pieces c.pieces.result.now)
    (subst (λ d. Alike (scope_seen c.of-scope.result) (scope_of d)) c.definition.ensures c.of-scope.ensures)
    c.pieces.ensures
    (c.find_in_lines.ensures ∙ ap (λ d. least_after c.args.best.now (flat_map (λ e. unknown_in (scope_seen c.of-scope.result) (mentions e)) (line_exprs d))) c.definition-2.ensures)
    c.find_in_pieces.ensures
