use Rattle.wc_archive_file.proofs.Named.{finished_state, no_state}
use Rattle.wc_archive_file.proofs.names.finished_state.Goals as goal

pub returns-in-Some : goal.returns-in-Some
returns-in-Some c = finished_state c.args.name.now _ c.finished.result c.requires.plain c.requires.excepted c.in-Some.ensures c.finished.ensures

pub returns-in-None : goal.returns-in-None
returns-in-None c = no_state c.args.name.now c.requires.plain c.requires.excepted c.in-None.ensures
