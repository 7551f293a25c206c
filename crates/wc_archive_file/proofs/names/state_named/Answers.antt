use Rattle.wc_archive_file.proofs.Named.{plain_state}
use Rattle.wc_archive_file.proofs.names.state_named.Goals as goal

pub returns-in-Some : goal.returns-in-Some
returns-in-Some c = plain_state c.args.name.now _ c.in-Some.ensures
