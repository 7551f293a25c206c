use Rattle.wc_subworlds.proofs.Asked.{replays_are_meant}
use Rattle.wc_subworlds.proofs.laws.replays_are_meant.Goals as goal

pub returns : goal.returns
returns c = replays_are_meant
