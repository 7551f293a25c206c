use Rattle.wc_soundness.proofs.Others.{others_stay_sound}
use Rattle.wc_soundness.proofs.touches.others_stay_sound.Goals as goal

pub returns : goal.returns
returns c = others_stay_sound
