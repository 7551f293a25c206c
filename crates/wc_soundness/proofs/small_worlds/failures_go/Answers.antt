use Rattle.wc_soundness.proofs.Failures.{failures_go}
use Rattle.wc_soundness.proofs.small_worlds.failures_go.Goals as goal

pub returns : goal.returns
returns c = failures_go
