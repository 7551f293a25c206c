use Rattle.std.proofs.Common.{◌≡◌, map, take}
use Rattle.wc_semantics.specs.Rules.{unnumbered}
use Rattle.wc_semantics.proofs.rules.environment.Given as goal

abbrev pub invariant-loop-port : goal.invariant-loop-port
invariant-loop-port l = l.named ≡ map unnumbered (take l.port-index l.port-items)
