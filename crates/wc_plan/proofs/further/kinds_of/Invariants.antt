use Rattle.std.proofs.Common.{◌≡◌, [], drop}
use Rattle.wc_plan.specs.Further.{kinds_after}
use Rattle.wc_plan.proofs.further.kinds_of.Given as goal

abbrev pub invariant-loop-port : goal.invariant-loop-port
invariant-loop-port l = kinds_after l.kinds (drop l.port-index l.ports) ≡ kinds_after [] l.ports
