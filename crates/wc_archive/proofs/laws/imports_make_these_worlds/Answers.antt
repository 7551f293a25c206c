use Rattle.wc_archive.proofs.Made.{imports_make_these_worlds}
use Rattle.wc_archive.proofs.laws.imports_make_these_worlds.Goals as goal

pub returns : goal.returns
returns c = imports_make_these_worlds
