use Rattle.wc_soundness.proofs.CallingTurns.{calls_of_chains_keep_sound}
use Rattle.wc_soundness.proofs.waits.calls_of_chains_keep_sound.Goals as goal

pub returns : goal.returns
returns c = calls_of_chains_keep_sound
