use Rattle.wc_soundness.proofs.CachingTurns.{functions_keep_sound}
use Rattle.wc_soundness.proofs.caching.created_functions_keep_sound.Goals as goal

pub returns : goal.returns
returns c = functions_keep_sound
