use Rattle.wc_soundness.proofs.FreeNames.{retrieved_is_free}
use Rattle.wc_soundness.proofs.jobs.retrieved_is_free.Goals as goal

pub returns : goal.returns
returns c = retrieved_is_free
