use Rattle.std.proofs.Common.{◌≡◌, drop}
use Rattle.wc_restart.specs.Judging.{unknown_functions}
use Rattle.wc_restart.proofs.judging.unknown_function.Given as goal

abbrev pub invariant-loop-handler : goal.invariant-loop-handler
invariant-loop-handler l = unknown_functions l.library (drop l.handler-index l.handler-items) ≡ unknown_functions l.library l.handler-items
