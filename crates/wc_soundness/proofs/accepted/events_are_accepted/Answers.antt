use Rattle.wc_soundness.proofs.AcceptedEvents.{events_are_accepted}
use Rattle.wc_soundness.proofs.accepted.events_are_accepted.Goals as goal

pub returns : goal.returns
returns c = events_are_accepted
