use Rattle.wc_soundness.proofs.SubmitTurns.{chain_calls_are_accepted}
use Rattle.wc_soundness.proofs.submits.chain_calls_are_accepted.Goals as goal

pub returns : goal.returns
returns c = chain_calls_are_accepted
