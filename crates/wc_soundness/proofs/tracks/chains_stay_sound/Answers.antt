use Rattle.wc_soundness.proofs.SoundTurns.{chains_stay_sound}
use Rattle.wc_soundness.proofs.tracks.chains_stay_sound.Goals as goal

pub returns : goal.returns
returns c = chains_stay_sound
