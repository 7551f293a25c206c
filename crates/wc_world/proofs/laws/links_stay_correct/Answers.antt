use Rattle.wc_world.proofs.LinkCorrect.{links_stay_correct}
use Rattle.wc_world.proofs.laws.links_stay_correct.Goals as goal

pub returns : goal.returns
returns c = links_stay_correct
