use Rattle.wc_machine.proofs.FunctionEnds.{functions_accepted}
use Rattle.wc_machine.proofs.function_laws.functions_are_accepted.Goals as goal

pub returns : goal.returns
returns c = functions_accepted
