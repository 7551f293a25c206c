use Rattle.wc_world.proofs.OneAnswer.{taken_or_refused, refused_once}
use Rattle.wc_world.proofs.laws.changes_have_one_answer.Goals as goal

pub returns-clause-both : goal.returns-clause-both
returns-clause-both c = taken_or_refused

pub returns-clause-one : goal.returns-clause-one
returns-clause-one c = refused_once
