use Rattle.wc_archive.proofs.Part.{archives_are_these_worlds}
use Rattle.wc_archive.proofs.laws.archives_are_these_worlds.Goals as goal

pub returns : goal.returns
returns c = archives_are_these_worlds
