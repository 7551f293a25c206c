use Rattle.std.proofs.Common.{take, map}
use Rattle.wc_check.specs.Least.{Agree}
use Rattle.wc_check.proofs.repeats.names_of.Given as goal

abbrev pub invariant-loop-item : goal.invariant-loop-item
invariant-loop-item g l = Agree l.names (map (λ x. (g.T.Placed.placed x).0) (take l.item-index l.items))
