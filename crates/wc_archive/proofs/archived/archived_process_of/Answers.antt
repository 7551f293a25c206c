use Rattle.std.proofs.Common.{sym, ap, ◌∙◌}
use Rattle.std.specs.Option.{option_copied}
use Rattle.wc_subworlds.proofs.Found.{found_itself}
use Rattle.wc_archive.proofs.archived.archived_process_of.Goals as goal

pub archived_process-requires-clause-found : goal.archived_process-requires-clause-found
archived_process-requires-clause-found c =
    found_itself c.args.id c.args.world.now.world c.in-Some.process.now (sym c.record_of.ensures ∙ ap option_copied c.in-Some.is)
