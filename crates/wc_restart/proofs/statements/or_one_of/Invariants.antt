use Rattle.std.proofs.Common.{◌≡◌, drop}
use Rattle.wc_restart.specs.Statements.{or_one_of}
use Rattle.wc_restart.proofs.statements.or_one_of.Given as goal

abbrev pub invariant-loop-status : goal.invariant-loop-status
invariant-loop-status l = or_one_of l.found (drop l.status-index l.statuses) ≡ or_one_of l.fn.first l.statuses
