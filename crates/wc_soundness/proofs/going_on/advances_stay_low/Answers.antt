use Rattle.wc_soundness.proofs.Low.{advances_stay_low}
use Rattle.wc_soundness.proofs.going_on.advances_stay_low.Goals as goal

pub returns : goal.returns
returns c = advances_stay_low
