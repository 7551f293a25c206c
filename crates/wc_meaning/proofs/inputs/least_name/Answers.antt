use Rattle.wc_meaning.proofs.Least.{least_is, no_least}
use Rattle.wc_meaning.proofs.inputs.least_name.Goals as goal

pub returns-clause-least : goal.returns-clause-least
returns-clause-least c = least_is

pub returns-clause-none : goal.returns-clause-none
returns-clause-none c = no_least
