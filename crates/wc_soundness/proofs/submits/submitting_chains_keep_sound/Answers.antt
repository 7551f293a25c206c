use Rattle.wc_soundness.proofs.SubmitTurns.{submitting_chains_keep_sound}
use Rattle.wc_soundness.proofs.submits.submitting_chains_keep_sound.Goals as goal

pub returns : goal.returns
returns c = submitting_chains_keep_sound
