use Rattle.std.proofs.Common.{ap, ◌∙◌}
use Rattle.std.specs.Prelude.{option_map, option_and_then}
use Rattle.wc_syntax.specs.Findings.{definition_named}
use Rattle.wc_syntax.specs.Printing.{printed_definition}
use Rattle.wc_trees.proofs.recorded.text_of.Goals as goal

pub returns : goal.returns
returns c =
    c.text_of.ensures
    ∙ ap (λ o. option_map printed_definition (option_and_then (definition_named c.args.process.now.definition) o)) c.in_ok-library.ensures
