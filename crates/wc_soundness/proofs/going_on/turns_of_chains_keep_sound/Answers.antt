use Rattle.wc_soundness.proofs.ChainTurns.{turns_keep_sound}
use Rattle.wc_soundness.proofs.going_on.turns_of_chains_keep_sound.Goals as goal

pub returns : goal.returns
returns c = turns_keep_sound
