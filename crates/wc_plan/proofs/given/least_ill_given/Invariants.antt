use Rattle.std.proofs.Common.{◌≡◌, drop}
use Rattle.std.specs.Option.{option_copied}
use Rattle.wc_meaning.specs.Inputs.{least, least_after}
use Rattle.wc_plan.specs.Given.{ill_given}
use Rattle.wc_plan.proofs.given.least_ill_given.Given as goal

abbrev pub invariant-loop-port : goal.invariant-loop-port
invariant-loop-port l = least_after (option_copied l.best) (ill_given (drop l.port-index l.ports) l.given l.file) ≡ least (ill_given l.ports l.given l.file)
