use Rattle.std.proofs.Common.{◌≡◌, drop}
use Rattle.wc_restart.specs.Judging.{bad_ports}
use Rattle.wc_restart.proofs.judging.bad_ports.Given as goal

abbrev pub invariant-loop-handler : goal.invariant-loop-handler
invariant-loop-handler l = bad_ports l.library l.ports (drop l.handler-index l.handler-items) ≡ bad_ports l.library l.ports l.handler-items
