use Rattle.wc_soundness.proofs.ListTurns.{turns_have_changes}
use Rattle.wc_soundness.proofs.lists.turns_have_changes.Goals as goal

pub returns : goal.returns
returns c = turns_have_changes
