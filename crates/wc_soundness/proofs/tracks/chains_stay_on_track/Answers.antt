use Rattle.wc_soundness.proofs.ChainAdvances.{chains_stay_on_track}
use Rattle.wc_soundness.proofs.tracks.chains_stay_on_track.Goals as goal

pub returns : goal.returns
returns c = chains_stay_on_track
