use Rattle.wc_restart.proofs.Examples.{printed_as}
use Rattle.wc_restart.proofs.laws.worked_chain.Goals as goal

pub returns : goal.returns
returns c = printed_as
