use Rattle.wc_soundness.proofs.Given.{outcomes_are_own}
use Rattle.wc_soundness.proofs.caching.given_comes.Goals as goal

pub returns : goal.returns
returns c = outcomes_are_own
