use Rattle.wc_soundness.proofs.Sound.{sets_keep_sound}
use Rattle.wc_soundness.proofs.sets.sets_keep_sound.Goals as goal

pub returns : goal.returns
returns c = sets_keep_sound
