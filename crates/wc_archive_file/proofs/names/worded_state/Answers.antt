use Rattle.wc_archive_file.proofs.Named.{excepted_state}
use Rattle.wc_archive_file.proofs.names.worded_state.Goals as goal

pub returns-in-Some : goal.returns-in-Some
returns-in-Some c = excepted_state c.args.name.now _ _ c.requires c.in-Some.ensures c.excepted.ensures
