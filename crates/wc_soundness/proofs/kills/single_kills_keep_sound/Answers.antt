use Rattle.wc_soundness.proofs.KillLaws.{single_kills_keep_sound}
use Rattle.wc_soundness.proofs.kills.single_kills_keep_sound.Goals as goal

pub returns : goal.returns
returns c = single_kills_keep_sound
