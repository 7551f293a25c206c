use Rattle.wc_semantics.proofs.Late.{late_gives_none}
use Rattle.wc_semantics.proofs.laws.passed_stop.Goals as goal

pub returns : goal.returns
returns c k name ports is a n m e t = late_gives_none k name ports is a n e t m
