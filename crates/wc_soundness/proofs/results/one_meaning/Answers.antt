use Rattle.wc_soundness.proofs.OneMeaning.{recorded_is_meant, one_meaning}
use Rattle.wc_soundness.proofs.results.one_meaning.Goals as goal

pub returns-clause-meant : goal.returns-clause-meant
returns-clause-meant c = recorded_is_meant

pub returns-clause-one : goal.returns-clause-one
returns-clause-one c = one_meaning
