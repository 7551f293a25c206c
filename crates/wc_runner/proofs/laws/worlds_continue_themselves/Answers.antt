use Rattle.wc_runner.proofs.Continuing.{continues_itself}
use Rattle.wc_runner.proofs.laws.worlds_continue_themselves.Goals as goal

pub returns : goal.returns
returns c = continues_itself
