use Rattle.wc_soundness.proofs.SoundEvents.{events_keep_sound}
use Rattle.wc_soundness.proofs.events.events_keep_sound.Goals as goal

pub returns : goal.returns
returns c = events_keep_sound
