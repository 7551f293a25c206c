use Rattle.wc_workers.proofs.Worked as worked
use Rattle.wc_workers.proofs.laws.workers_take_turns.Goals as goal

pub returns-clause-held : goal.returns-clause-held
returns-clause-held g c = λ limits. worked.workers_take_turns g.T.Transport g.P.Pacer limits c.turns_leave_others.ensures

pub returns-clause-new : goal.returns-clause-new
returns-clause-new g c = λ limits. worked.new_workers_take_turns g.T.Transport g.P.Pacer limits c.turns_leave_others.ensures
