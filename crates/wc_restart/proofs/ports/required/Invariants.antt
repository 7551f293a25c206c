use Rattle.std.proofs.Common.{◌≡◌, ◌++◌, drop}
use Rattle.wc_restart.specs.Ports.{required}
use Rattle.wc_restart.proofs.ports.required.Given as goal

abbrev pub invariant-loop-port : goal.invariant-loop-port
invariant-loop-port l = l.found ++ required (drop l.port-index l.port-items) ≡ required l.port-items
