use Rattle.std.proofs.Common.{◌≤◌, length}
use Rattle.wc_graph.specs.Broken.{Breaks, NoneFrom}
use Rattle.wc_graph.proofs.rules.is_broken_from.Given as goal

abbrev pub invariant-loop-at : goal.invariant-loop-at
invariant-loop-at l = (l.at ≤ length l.links) × NoneFrom (λ a. Breaks l.rule a l.link) l.links l.at

abbrev pub decreases-loop-at : goal.decreases-loop-at
decreases-loop-at l = l.at
