use Rattle.std.proofs.Common.{suc}
use Rattle.wc_matches.specs.Matches.{IsMatch}
use Rattle.wc_matches.proofs.Begun.{last_level}
use Rattle.wc_matches.proofs.Cutting.{first_less, more_is}
use Rattle.wc_matches.proofs.laws.last_level_matches.Goals as goal

pub returns : goal.returns
returns c = λ w q most rows f.
    let g = last_level w q (suc most) rows f in
    (first_less (IsMatch w q) most rows g, more_is (IsMatch w q) most rows g)
