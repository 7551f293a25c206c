use Rattle.wc_soundness.proofs.SoundEnds.{ends_safe}
use Rattle.wc_soundness.proofs.jobs.ends_are_safe.Goals as goal

pub returns : goal.returns
returns c = ends_safe
