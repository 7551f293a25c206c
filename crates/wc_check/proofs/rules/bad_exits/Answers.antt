use Rattle.std.proofs.Common.{◌∙◌, ap, map}
use Rattle.wc_syntax.specs.Findings.{declared_numbers, is_status}
use Rattle.wc_check.specs.Flat.{seen_pieces}
use Rattle.wc_check.proofs.Ruled.{exits_all}
use Rattle.wc_check.proofs.rules.bad_exits.Goals as goal

pub returns : goal.returns
returns c =
    exits_all c.args.parts.now c.in_ok-declared.declared c.rules.result.now (seen_pieces c.pieces.result.now) _ _ _
    (λ m. c.in_ok-declared.ensures m ∙ ap (λ d. is_status m (map (λ n. n.value) (declared_numbers d))) c.definition.ensures)
    c.rules.ensures c.pieces.ensures c.exits_of_rules.ensures c.exits_of_pieces.ensures
