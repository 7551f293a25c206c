use Rattle.std.proofs.Common.{◌≡◌, map, take}
use Rattle.wc_restart.specs.Statements.{passed_on}
use Rattle.wc_restart.proofs.statements.passing.Given as goal

abbrev pub invariant-loop-port : goal.invariant-loop-port
invariant-loop-port l = l.stmts ≡ map passed_on (take l.port-index l.port-items)
