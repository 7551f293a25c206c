use Rattle.wc_archive.proofs.Accepted.{good_archives_are_consistent}
use Rattle.wc_archive.proofs.laws.good_archives_are_consistent.Goals as goal

pub returns : goal.returns
returns c = good_archives_are_consistent
