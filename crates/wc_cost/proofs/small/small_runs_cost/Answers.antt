use Rattle.wc_cost.proofs.SmallRuns.{small_runs_cost}
use Rattle.wc_cost.proofs.small.small_runs_cost.Goals as goal

pub returns : goal.returns
returns c = small_runs_cost
