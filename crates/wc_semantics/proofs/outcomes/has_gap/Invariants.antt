use Rattle.std.proofs.Common.{◌≡◌, drop}
use Rattle.wc_semantics.specs.Outcomes.{lacks}
use Rattle.wc_semantics.proofs.outcomes.has_gap.Given as goal

abbrev pub invariant-loop-port : goal.invariant-loop-port
invariant-loop-port l = lacks (drop l.port-index l.ports) l.outputs ≡ lacks l.ports l.outputs
