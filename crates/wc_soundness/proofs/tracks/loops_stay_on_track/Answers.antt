use Rattle.wc_soundness.proofs.ChainAdvances.{loops_stay_on_track}
use Rattle.wc_soundness.proofs.tracks.loops_stay_on_track.Goals as goal

pub returns : goal.returns
returns c = loops_stay_on_track
