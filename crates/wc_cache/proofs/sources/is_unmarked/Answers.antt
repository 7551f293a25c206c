use Rattle.std.proofs.Common.{ap, sym, ◌∙◌}
use Rattle.std.specs.Option.{option_copied}
use Rattle.wc_machine.specs.Recorded.{its_definition}
use Rattle.wc_cache.specs.Sources.{is_unmarked, is_unmarked_by}
use Rattle.wc_cache.proofs.Valid.{unmarked_bare}
use Rattle.wc_cache.proofs.sources.is_unmarked.Goals as goal

pub returns-in-Finished : goal.returns-in-Finished
returns-in-Finished c =
    let d = its_definition c.args.world.now.world c.args.process.now in
    c.is_unmarked_by.ensures ∙ sym (unmarked_bare (option_copied c.definition_of.result) c.in-Finished.status) ∙ ap (λ o. is_unmarked_by o c.in-Finished.status) c.definition_of.ensures
    ∙ ap (λ s. is_unmarked s d) (sym c.in-Finished.is)
