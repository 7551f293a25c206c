use Rattle.wc_soundness.proofs.ChainEnds.{ends_of_chains_keep_sound}
use Rattle.wc_soundness.proofs.ends.ends_of_chains_keep_sound.Goals as goal

pub returns : goal.returns
returns c = ends_of_chains_keep_sound
