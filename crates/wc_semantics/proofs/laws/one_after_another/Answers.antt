use Rattle.wc_semantics.proofs.Acts.{run_lists}
use Rattle.wc_semantics.proofs.Calls.{take_append, ended_settled}
use Rattle.wc_semantics.proofs.laws.one_after_another.Goals as goal

pub returns-clause-lists : goal.returns-clause-lists
returns-clause-lists c = run_lists

pub returns-clause-calls : goal.returns-clause-calls
returns-clause-calls c = take_append

pub returns-clause-past : goal.returns-clause-past
returns-clause-past c = ended_settled
