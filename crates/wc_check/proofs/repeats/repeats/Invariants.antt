use Rattle.std.proofs.Common.{◌≡◌, drop, map}
use Rattle.wc_syntax.specs.Findings.{repeats, repeats_after}
use Rattle.wc_check.specs.Least.{least_after}
use Rattle.wc_check.proofs.repeats.repeats.Given as goal

abbrev pub invariant-loop-item : goal.invariant-loop-item
invariant-loop-item g l = least_after l.best (repeats_after l.names (map g.T.Placed.placed (drop l.item-index l.items))) ≡ least_after l.fn.best (repeats (map g.T.Placed.placed l.items))
