use Rattle.std.proofs.Common.{◌≡◌, None, drop}
use Rattle.std.specs.Option.{option_copied}
use Rattle.wc_meaning.specs.Inputs.{least_after, wrong_inputs}
use Rattle.wc_meaning.proofs.inputs.least_wrong.Given as goal

abbrev pub invariant-loop-name : goal.invariant-loop-name
invariant-loop-name l = least_after (option_copied l.best) (wrong_inputs l.ports (drop l.name-index l.inputs)) ≡ least_after None (wrong_inputs l.ports l.inputs)
