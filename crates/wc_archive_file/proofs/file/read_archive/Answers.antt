use Rattle.wc_archive_file.proofs.Files.{finds_all, unformed}
use Rattle.wc_archive_file.proofs.file.read_archive.Goals as goal

pub returns-in-Some : goal.returns-in-Some
returns-in-Some c = finds_all c.args.bytes.now _ _ c.archive_of.result c.in_ok-form.ensures c.in-Some.is c.archive_of.ensures

pub returns-in-None : goal.returns-in-None
returns-in-None c = unformed c.args.bytes.now _ c.in_ok-form.ensures c.in-None.is
