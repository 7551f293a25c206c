use Rattle.wc_soundness.proofs.SoundEvents.{what_may_happen_keeps_sound}
use Rattle.wc_soundness.proofs.events.what_may_happen_keeps_sound.Goals as goal

pub returns : goal.returns
returns c = what_may_happen_keeps_sound
