use Rattle.wc_soundness.proofs.Begins.{beginnings_keep_sound}
use Rattle.wc_soundness.proofs.caching.beginnings_keep_sound.Goals as goal

pub returns : goal.returns
returns c = beginnings_keep_sound
