use Rattle.std.proofs.Common.{◌∙◌}
use Rattle.std.specs.Option.{option_copied}
use Rattle.wc_changes.proofs.Named.{lacks_is}
use Rattle.wc_changes.proofs.end.lacks.Goals as goal

pub returns : goal.returns
returns c =
    c.is_lacking.ensures
    ∙ lacks_is c.args.name.now c.library.result.now c.args.library.now (option_copied c.find_definition.result) c.library.ensures.same c.find_definition.ensures c.args.outputs.now
