use Rattle.std.proofs.Common.{◌≡◌, ◌+◌, ◌≤◌, drop}
use Rattle.wc_plan.specs.Given.{times_given}
use Rattle.wc_plan.proofs.given.count_given.Given as goal

abbrev pub invariant-loop-port : goal.invariant-loop-port
invariant-loop-port l = (l.count ≤ l.port-index) × (l.count + times_given l.name (drop l.port-index l.given) ≡ times_given l.name l.given)
