use Rattle.wc_soundness.proofs.Stays.{stays_given}
use Rattle.wc_soundness.proofs.caching.given_stays.Goals as goal

pub returns : goal.returns
returns c = stays_given
