use Rattle.std.proofs.Common.{◌≡◌, drop}
use Rattle.wc_restart.specs.Ports.{has_port}
use Rattle.wc_restart.proofs.ports.has_port.Given as goal

abbrev pub invariant-loop-other : goal.invariant-loop-other
invariant-loop-other l = has_port (drop l.other-index l.other-items) l.port ≡ has_port l.other-items l.port
