use Rattle.std.proofs.Common.{◌≡◌, drop}
use Rattle.wc_restart.specs.Chains.{aborts, aborts_among}
use Rattle.wc_restart.proofs.codes.aborts.Given as goal

abbrev pub invariant-loop-handler : goal.invariant-loop-handler
invariant-loop-handler l = aborts_among l.found (drop l.handler-index l.handler-items) ≡ aborts l.handler-items
