use Rattle.std.proofs.Common.{◌≡◌, drop}
use Rattle.std.specs.Option.{option_copied}
use Rattle.wc_meaning.specs.Inputs.{least_after, missing_inputs}
use Rattle.wc_meaning.proofs.inputs.least_missing.Given as goal

abbrev pub invariant-loop-port : goal.invariant-loop-port
invariant-loop-port l = least_after (option_copied l.best) (missing_inputs (drop l.port-index l.ports) l.inputs) ≡ least_after (option_copied l.fn.best) (missing_inputs l.ports l.inputs)
