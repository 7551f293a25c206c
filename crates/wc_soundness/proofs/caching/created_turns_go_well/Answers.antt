use Rattle.wc_soundness.proofs.CreatedTurns.{created_turns}
use Rattle.wc_soundness.proofs.caching.created_turns_go_well.Goals as goal

pub returns : goal.returns
returns c = created_turns
