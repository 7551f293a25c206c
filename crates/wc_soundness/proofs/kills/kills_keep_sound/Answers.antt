use Rattle.wc_soundness.proofs.WholeKills.{kills_keep_sound}
use Rattle.wc_soundness.proofs.kills.kills_keep_sound.Goals as goal

pub returns : goal.returns
returns c = kills_keep_sound
