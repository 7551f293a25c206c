use Rattle.wc_runner.proofs.Continuing.{continues_on}
use Rattle.wc_runner.proofs.laws.continuing_goes_on.Goals as goal

pub returns : goal.returns
returns c = continues_on
