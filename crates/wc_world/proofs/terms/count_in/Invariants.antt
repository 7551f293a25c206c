use Rattle.std.proofs.Common.{◌≡◌, drop}
use Rattle.wc_world.specs.Accepted.{count_in}
use Rattle.wc_world.proofs.terms.count_in.Given as goal

abbrev pub invariant-loop-change : goal.invariant-loop-change
invariant-loop-change l = count_in (drop l.change-index l.changes) ≡ count_in l.changes
