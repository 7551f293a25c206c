use Rattle.wc_soundness.proofs.SubmitTurns.{called_are_sound}
use Rattle.wc_soundness.proofs.submits.called_are_sound.Goals as goal

pub returns : goal.returns
returns c = called_are_sound
