use Rattle.wc_plan.proofs.Once.{one_prepared}
use Rattle.wc_plan.proofs.laws.files_are_read_as_one_thing.Goals as goal

pub returns-clause-prepared : goal.returns-clause-prepared
returns-clause-prepared c = one_prepared
