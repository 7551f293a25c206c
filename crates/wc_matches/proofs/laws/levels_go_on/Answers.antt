use Rattle.wc_matches.proofs.Begun.{one_level}
use Rattle.wc_matches.proofs.laws.levels_go_on.Goals as goal

pub returns : goal.returns
returns c = λ w q done left join most rows each f e. one_level w q done left join most rows each f e
