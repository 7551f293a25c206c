use Rattle.wc_matches.specs.Matches.{IsMatch}
use Rattle.wc_matches.proofs.Firsts.{first_are_one}
use Rattle.wc_matches.proofs.laws.first_rows_are_one.Goals as goal

pub returns : goal.returns
returns c = λ w q most xs ys f g. first_are_one (IsMatch w q) most xs ys f g
