use Rattle.wc_archive_file.proofs.One.{one_archive}
use Rattle.wc_archive_file.proofs.laws.bytes_are_of_one_archive.Goals as goal

pub returns : goal.returns
returns c = one_archive
