use Rattle.wc_soundness.proofs.Retrieved.{retrieved_stays}
use Rattle.wc_soundness.proofs.jobs.retrieved_stays.Goals as goal

pub returns : goal.returns
returns c = retrieved_stays
