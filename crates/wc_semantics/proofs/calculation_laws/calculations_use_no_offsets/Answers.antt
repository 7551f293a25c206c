use Rattle.wc_semantics.proofs.BareCalculations.{calculated_bare, request_bare, parsed_bare, outcome_bare}
use Rattle.wc_semantics.proofs.calculation_laws.calculations_use_no_offsets.Goals as goal

pub returns-clause-functions : goal.returns-clause-functions
returns-clause-functions c = calculated_bare

pub returns-clause-requests : goal.returns-clause-requests
returns-clause-requests c = request_bare

pub returns-clause-results : goal.returns-clause-results
returns-clause-results c = parsed_bare

pub returns-clause-jobs : goal.returns-clause-jobs
returns-clause-jobs c = outcome_bare
