use Rattle.wc_keys.proofs.Exact.{one_list}
use Rattle.wc_keys.proofs.Parts.{parts_are_exact}
use Rattle.wc_keys.proofs.laws.seals_are_one.Goals as goal

pub returns-clause-one : goal.returns-clause-one
returns-clause-one c = one_list

pub returns-clause-parts : goal.returns-clause-parts
returns-clause-parts c = parts_are_exact
