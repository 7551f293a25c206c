use Rattle.wc_matches.specs.Numbers.{AreNumbers}
use Rattle.wc_matches.proofs.Ordering.{MarkedBelow}
use Rattle.wc_matches.proofs.numbers.numbers.Given as goal

abbrev pub invariant-loop-place : goal.invariant-loop-place
invariant-loop-place l = AreNumbers (MarkedBelow l.set l.place) l.ids.items
