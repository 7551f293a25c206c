use Rattle.wc_soundness.proofs.SubmitTurns.{chain_calls_touch}
use Rattle.wc_soundness.proofs.submits.chain_calls_touch.Goals as goal

pub returns : goal.returns
returns c = chain_calls_touch
