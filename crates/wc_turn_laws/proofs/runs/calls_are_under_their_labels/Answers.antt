use Rattle.wc_turn_laws.proofs.CalledLabels.{calls_under_labels}
use Rattle.wc_turn_laws.proofs.runs.calls_are_under_their_labels.Goals as goal

pub returns : goal.returns
returns c = calls_under_labels
