use Rattle.wc_archive_file.proofs.Named.{no_status, some_status}
use Rattle.wc_archive_file.proofs.names.finished.Goals as goal

pub returns-in-Some : goal.returns-in-Some
returns-in-Some c = some_status c.args.digits.now _ _ c.in_ok-status.ensures c.in-Some.is

pub returns-in-None : goal.returns-in-None
returns-in-None c = no_status c.args.digits.now _ c.in_ok-status.ensures c.in-None.is
