use Rattle.wc_soundness.proofs.Contexts.{bound_alike}
use Rattle.wc_soundness.proofs.bindings.binding_is_the_runs.Goals as goal

pub returns : goal.returns
returns c = bound_alike
