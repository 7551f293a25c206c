use Rattle.wc_archive.proofs.SmallWorlds.{sums_are_archived}
use Rattle.wc_archive.proofs.laws.sums_are_archived.Goals as goal

pub returns : goal.returns
returns c = sums_are_archived
