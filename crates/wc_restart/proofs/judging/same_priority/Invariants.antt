use Rattle.std.proofs.Common.{◌≡◌, [], drop}
use Rattle.wc_restart.specs.Judging.{same_priorities}
use Rattle.wc_restart.proofs.judging.same_priority.Given as goal

abbrev pub invariant-loop-handler : goal.invariant-loop-handler
invariant-loop-handler l = same_priorities l.before (drop l.handler-index l.handler-items) ≡ same_priorities [] l.handler-items
