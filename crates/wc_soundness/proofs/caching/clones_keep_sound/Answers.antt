use Rattle.wc_soundness.proofs.CachingTurns.{clones_keep_sound}
use Rattle.wc_soundness.proofs.caching.clones_keep_sound.Goals as goal

pub returns : goal.returns
returns c = clones_keep_sound
