use Rattle.wc_soundness.proofs.Outputs.{outputs_are_inputs}
use Rattle.wc_soundness.proofs.caching.outputs_are_inputs.Goals as goal

pub returns : goal.returns
returns c = outputs_are_inputs
