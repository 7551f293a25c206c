use Rattle.wc_soundness.proofs.SoundEvents.{all_events_keep_sound}
use Rattle.wc_soundness.proofs.events.all_events_keep_sound.Goals as goal

pub returns : goal.returns
returns c = all_events_keep_sound
