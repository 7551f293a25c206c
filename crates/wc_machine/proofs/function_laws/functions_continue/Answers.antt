use Rattle.wc_machine.proofs.FunctionEnds.{functions_continue}
use Rattle.wc_machine.proofs.function_laws.functions_continue.Goals as goal

pub returns : goal.returns
returns c = functions_continue
