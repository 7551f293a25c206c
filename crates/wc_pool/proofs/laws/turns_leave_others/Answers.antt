use Rattle.wc_pool.proofs.Others as others
use Rattle.wc_pool.proofs.laws.turns_leave_others.Goals as goal

pub returns : goal.returns
returns c = others.turns_leave_others c.reached_worlds_are_consistent.ensures
