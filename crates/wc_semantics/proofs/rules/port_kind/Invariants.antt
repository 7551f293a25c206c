use Rattle.std.proofs.Common.{◌≡◌, drop}
use Rattle.wc_semantics.specs.Rules.{kind_of_port}
use Rattle.wc_semantics.proofs.rules.port_kind.Given as goal

abbrev pub invariant-loop-port : goal.invariant-loop-port
invariant-loop-port l = kind_of_port l.name (drop l.port-index l.ports) ≡ kind_of_port l.name l.ports
