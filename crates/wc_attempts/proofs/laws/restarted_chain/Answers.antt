use Rattle.wc_attempts.proofs.Restarted.{restarts}
use Rattle.wc_attempts.proofs.laws.restarted_chain.Goals as goal

pub returns : goal.returns
returns c = restarts
