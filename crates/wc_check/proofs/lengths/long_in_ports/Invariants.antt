use Rattle.std.proofs.Common.{◌≡◌, drop}
use Rattle.std.specs.Prelude.{flat_map}
use Rattle.wc_syntax.specs.Findings.{long_name}
use Rattle.wc_check.specs.Least.{least_after}
use Rattle.wc_check.proofs.lengths.long_in_ports.Given as goal

abbrev pub invariant-loop-port : goal.invariant-loop-port
invariant-loop-port l = least_after l.best (flat_map (λ p. long_name p.name) (drop l.port-index l.ports)) ≡ least_after l.fn.best (flat_map (λ p. long_name p.name) l.ports)
