use Rattle.wc_soundness.proofs.FoundResults.{results_are_found, one_result, killed_have_none}
use Rattle.wc_soundness.proofs.results.one_result.Goals as goal

pub returns-clause-found : goal.returns-clause-found
returns-clause-found c = results_are_found

pub returns-clause-one : goal.returns-clause-one
returns-clause-one c = one_result

pub returns-clause-killed : goal.returns-clause-killed
returns-clause-killed c = killed_have_none
