use Rattle.wc_soundness.proofs.Happening.{events_have_changes}
use Rattle.wc_soundness.proofs.lists.events_have_changes.Goals as goal

pub returns : goal.returns
returns c = events_have_changes
