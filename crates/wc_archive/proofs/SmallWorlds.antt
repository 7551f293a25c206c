-- The archive of a small world.
use Rattle.std.proofs.Common.{refl}
use Rattle.wc_machine.specs.Results.{result_of}
use Rattle.wc_archive.specs.SmallWorlds.{SumsAreArchived}

pub sums_are_archived : SumsAreArchived
unfolding result_of
sums_are_archived library = refl
