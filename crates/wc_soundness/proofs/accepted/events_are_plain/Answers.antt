use Rattle.wc_soundness.proofs.Parts.{events_are_plain}
use Rattle.wc_soundness.proofs.accepted.events_are_plain.Goals as goal

pub returns : goal.returns
returns c = events_are_plain
