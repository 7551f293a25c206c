use Rattle.wc_soundness.proofs.Called.{called_have_their_inputs}
use Rattle.wc_soundness.proofs.submits.called_have_their_inputs.Goals as goal

pub returns : goal.returns
returns c = called_have_their_inputs
