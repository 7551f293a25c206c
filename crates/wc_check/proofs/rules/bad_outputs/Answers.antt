use Rattle.std.proofs.Common.{◌∙◌, ap, map}
use Rattle.wc_syntax.specs.Findings.{head_of, is_among}
use Rattle.wc_check.specs.Flat.{seen_pieces}
use Rattle.wc_check.proofs.Ruled.{outputs_all}
use Rattle.wc_check.proofs.rules.bad_outputs.Goals as goal

pub returns : goal.returns
returns c =
    outputs_all c.args.parts.now c.in_ok-outputs.outputs c.rules.result.now (seen_pieces c.pieces.result.now) _ _ _
    (λ m. c.in_ok-outputs.ensures m ∙ ap (λ ports. is_among m (map (λ p. p.name.text) ports)) (c.as_slice.ensures ∙ ap (λ h. h.outputs) (c.head_of.ensures ∙ ap head_of c.definition.ensures)))
    c.rules.ensures c.pieces.ensures c.outputs_of_rules.ensures c.outputs_of_pieces.ensures
