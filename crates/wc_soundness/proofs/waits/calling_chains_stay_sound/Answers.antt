use Rattle.wc_soundness.proofs.CallingTurns.{calling_chains_stay_sound}
use Rattle.wc_soundness.proofs.waits.calling_chains_stay_sound.Goals as goal

pub returns : goal.returns
returns c = calling_chains_stay_sound
