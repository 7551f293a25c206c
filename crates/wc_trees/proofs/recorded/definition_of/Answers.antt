use Rattle.std.proofs.Common.{ap, sym, ◌∙◌}
use Rattle.std.specs.Prelude.{option_map, option_and_then}
use Rattle.wc_syntax.specs.Bare.{bare_definition}
use Rattle.wc_syntax.specs.Findings.{definition_named}
use Rattle.wc_world.proofs.Definitions.{named_bare}
use Rattle.wc_trees.proofs.recorded.definition_of.Goals as goal

pub returns : goal.returns
returns c =
    let name = c.args.process.now.definition in
    ap (option_map bare_definition) c.find_definition.ensures
    ∙ sym (named_bare name c.library.result.now)
    ∙ ap (definition_named name) c.library.ensures.same
    ∙ ap (option_and_then (definition_named name)) c.in_ok-library.ensures
