use Rattle.std.proofs.Common.{◌≡◌, drop}
use Rattle.std.specs.Prelude.{flat_map}
use Rattle.wc_syntax.specs.Findings.{reserved_port}
use Rattle.wc_check.specs.Least.{least_after}
use Rattle.wc_check.proofs.heads.reserved_in.Given as goal

abbrev pub invariant-loop-port : goal.invariant-loop-port
invariant-loop-port l = least_after l.best (flat_map reserved_port (drop l.port-index l.ports)) ≡ least_after l.fn.best (flat_map reserved_port l.ports)
