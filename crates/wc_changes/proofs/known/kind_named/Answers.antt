use Rattle.std.proofs.Common.{◌∙◌}
use Rattle.std.specs.Option.{option_copied}
use Rattle.wc_changes.proofs.Named.{kind_is}
use Rattle.wc_changes.proofs.known.kind_named.Goals as goal

pub returns : goal.returns
returns c =
    c.kind_of.ensures
    ∙ kind_is c.args.name.now c.library.result.now c.args.library.now (option_copied c.find_definition.result) c.library.ensures.same c.find_definition.ensures
