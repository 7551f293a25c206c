use Rattle.wc_soundness.proofs.SoundEvents.{whatever_happens_is_sound}
use Rattle.wc_soundness.proofs.events.whatever_happens_is_sound.Goals as goal

pub returns : goal.returns
returns c = whatever_happens_is_sound
