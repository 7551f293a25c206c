use Rattle.wc_archive.proofs.Sound.{imports_keep_sound}
use Rattle.wc_archive.proofs.laws.imports_keep_sound.Goals as goal

pub returns : goal.returns
returns c = imports_keep_sound
