use Rattle.wc_soundness.proofs.BindingLaw.{bindings_keep_sound}
use Rattle.wc_soundness.proofs.bindings.bindings_keep_sound.Goals as goal

pub returns : goal.returns
returns c = bindings_keep_sound
