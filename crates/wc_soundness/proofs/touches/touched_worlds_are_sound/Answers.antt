use Rattle.wc_soundness.proofs.Others.{touched_worlds_are_sound}
use Rattle.wc_soundness.proofs.touches.touched_worlds_are_sound.Goals as goal

pub returns : goal.returns
returns c = touched_worlds_are_sound
