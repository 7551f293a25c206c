use Rattle.wc_matches.proofs.Examples.{sums_are_found, origins_are_found, one_origin_is_found}
use Rattle.wc_matches.proofs.laws.rows_are_found.Goals as goal

pub returns : goal.returns
returns c = record { sums = sums_are_found; origins = origins_are_found; one = one_origin_is_found }
