use Rattle.std.proofs.Common.{◌∙◌, ◌++◌, ap}
use Rattle.std.specs.Prelude.{flat_map}
use Rattle.wc_syntax.specs.Mentions.{mentions}
use Rattle.wc_syntax.specs.Findings.{head_of, long_name, line_exprs}
use Rattle.wc_check.specs.Flat.{seen_pieces}
use Rattle.wc_check.specs.Least.{least_after}
use Rattle.wc_check.specs.Sought.{long_mention}
use Rattle.wc_check.proofs.Ruled.{long_all}
use Rattle.wc_check.proofs.lengths.long_names.Goals as goal

pub returns : goal.returns
returns c =
    long_all c.args.parts.now c.rules.result.now (seen_pieces c.pieces.result.now) _ _ _ _ _ c.rules.ensures c.pieces.ensures
    (c.long_in_head.ensures
    ∙ ap (λ h. least_after c.args.best.now (long_name h.name ++ (flat_map (λ p. long_name p.name) h.inputs ++ flat_map (λ p. long_name p.name) h.outputs))) (c.head_of.ensures ∙ ap head_of c.definition.ensures))
    (c.find_in_lines.ensures ∙ ap (λ d. least_after c.long_in_head.new.best (flat_map (λ e. flat_map long_mention (mentions e)) (line_exprs d))) c.definition-2.ensures)
    c.long_in_rules.ensures c.long_in_pieces.ensures
