use Rattle.wc_soundness.proofs.Inside.{advances_stay_inside}
use Rattle.wc_soundness.proofs.going_on.advances_stay_inside.Goals as goal

pub returns : goal.returns
returns c = advances_stay_inside
