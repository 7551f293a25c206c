use Rattle.std.proofs.Common.{ap, ◌∙◌}
use Rattle.std.specs.Prelude.{option_map, option_and_then}
use Rattle.wc_syntax.specs.Findings.{definition_named}
use Rattle.wc_syntax.specs.Printing.{printed_definition}
use Rattle.wc_keys.proofs.digests.text_in.Goals as goal

pub returns : goal.returns
returns c = c.text_of.ensures ∙ ap (λ o. option_map printed_definition (option_and_then (definition_named c.args.name.now) o)) c.in_ok-checked.ensures
